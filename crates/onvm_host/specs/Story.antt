-- What a host and its files remember of their calls, in order.
use Rattle.std.specs.Prelude.{ℕ, List, [], ◌∷◌, ◌++◌, Option}
use Rattle.onvm_host.specs.Deeds as deed
use Rattle.onvm_host.specs.declared.story.Amounts.{Amounts}
use Rattle.onvm_host.specs.declared.story.Amounts.TheVariants.{None, Moved'}
use Rattle.onvm_host.specs.declared.story.Story.{Story}
use Rattle.onvm_host.specs.declared.story.Story.TheVariants.{Begin, Opened', OpenFailed', Shut', Created', CreateFailed', Kept', KeepFailed', Said'}

abbrev pub amounts_of : Amounts → List (Option ℕ)
amounts_of None = []
amounts_of (Moved' marker before amount) = amounts_of before ++ amount ∷ []

abbrev pub deeds_of : Story → List deed.Deed
deeds_of Begin = []
deeds_of (Opened' marker before name) = deeds_of before ++ deed.Opened name.value ∷ []
deeds_of (OpenFailed' marker before name) = deeds_of before ++ deed.OpenFailed name.value ∷ []
deeds_of (Shut' marker before name takes) = deeds_of before ++ deed.Shut name.value (amounts_of takes.value) ∷ []
deeds_of (Created' marker before name) = deeds_of before ++ deed.Created name.value ∷ []
deeds_of (CreateFailed' marker before name) = deeds_of before ++ deed.CreateFailed name.value ∷ []
deeds_of (Kept' marker before name puts) = deeds_of before ++ deed.Kept name.value (amounts_of puts.value) ∷ []
deeds_of (KeepFailed' marker before name puts) =
    deeds_of before ++ deed.KeepFailed name.value (amounts_of puts.value) ∷ []
deeds_of (Said' marker before amount) = deeds_of before ++ deed.Said amount ∷ []
