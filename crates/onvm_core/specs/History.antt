-- Lists of steps, and what they leave.
use Rattle.std.specs.Prelude.{ℕ, ◌+◌, Bool, true, false, ◌==◌, ◌||◌, if◌then◌else◌, List, [], ◌∷◌, ◌++◌, length, drop, Option, Some, None, unwrap_or}
use Rattle.onvm_base.specs.declared.ids.RingId.{RingId}
use Rattle.onvm_core.specs.declared.layout.Layout.{Layout}
use Rattle.onvm_core.specs.declared.layout.Word.{Word}
use Rattle.onvm_core.specs.declared.step.Item.{Item}
use Rattle.onvm_core.specs.declared.step.Item.TheVariants.{Buffer, Number}
use Rattle.onvm_core.specs.declared.step.Act.{Act}
use Rattle.onvm_core.specs.declared.step.Act.TheVariants.{Split, Join, Take, Give, Push, Pop, Look, Post}
use Rattle.onvm_core.specs.declared.step.Step.{Step}
use Rattle.onvm_core.specs.declared.place.Place.{Place}
use Rattle.onvm_core.specs.declared.place.Place.TheVariants.{Pool, Ring, Role}
use Rattle.onvm_core.specs.Layouts.{first_role, same_ring, same_word}

-- a list of steps, the newest first
abbrev pub History : Type 0
History = List Step

-- Rings

abbrev pub pushes : RingId → Act → List Item
pushes ring (Push r item) = if same_ring r ring then item ∷ [] else []
pushes ring _ = []

abbrev pub pops : RingId → Act → List Item
pops ring (Pop r item) = if same_ring r ring then item ∷ [] else []
pops ring _ = []

-- what was pushed on a ring, the oldest first
abbrev pub pushed_on : RingId → History → List Item
pushed_on ring [] = []
pushed_on ring (step ∷ before) = pushed_on ring before ++ pushes ring step.act

-- what was popped from a ring, the oldest first
abbrev pub popped_from : RingId → History → List Item
popped_from ring [] = []
popped_from ring (step ∷ before) = popped_from ring before ++ pops ring step.act

-- the content of a ring: what was pushed, without as many first ones as were popped
abbrev pub content_of : RingId → History → List Item
content_of ring past = drop (length (popped_from ring past)) (pushed_on ring past)

-- Places

abbrev pub place_by_push : RingId → ℕ → Item → Option Place
place_by_push ring buf (Buffer b parcel) = if b.0 == buf then Some (Ring ring) else None
place_by_push ring buf (Number n) = None

abbrev pub place_by_pop : ℕ → ℕ → Item → Option Place
place_by_pop role buf (Buffer b parcel) = if b.0 == buf then Some (Role role) else None
place_by_pop role buf (Number n) = None

-- where an act of a role puts a buffer, if it names it
abbrev pub place_by : ℕ → ℕ → Act → Option Place
place_by buf role (Take b) = if b.0 == buf then Some (Role role) else None
place_by buf role (Give b outcome parcel) = if b.0 == buf then Some Pool else None
place_by buf role (Push ring item) = place_by_push ring buf item
place_by buf role (Pop ring item) = place_by_pop role buf item
place_by buf role _ = None

-- where a buffer is: where the last step that names it put it, and in the pool at first
abbrev pub place_of : ℕ → History → Place
place_of buf [] = Pool
place_of buf (step ∷ before) = unwrap_or (place_by buf step.role step.act) (place_of buf before)

-- Roles

abbrev pub split_after : ℕ → Act → Bool → Bool
split_after role (Split r) was = if r == role then true else was
split_after role (Join r) was = if r == role then false else was
split_after role _ was = was

-- a role was split, and not joined since
abbrev pub is_split : ℕ → History → Bool
is_split role [] = false
is_split role (step ∷ before) = split_after role step.act (is_split role before)

-- the role of the first token is live from the start, another from each split to the join that follows it
abbrev pub is_live : Layout → ℕ → History → Bool
is_live layout role past = (role == first_role layout) || is_split role past

abbrev pub look_or : Act → Option (Word × ℕ) → Option (Word × ℕ)
look_or (Look word seen told) was = Some (word, seen)
look_or _ was = was

-- the word and the value of a role's latest look
abbrev pub latest_look : ℕ → History → Option (Word × ℕ)
latest_look role [] = None
latest_look role (step ∷ before) =
    if step.role == role then look_or step.act (latest_look role before) else latest_look role before

-- Posts

abbrev pub post_or : Word → Act → ℕ → ℕ
post_or word (Post w value) was = if same_word w word then value else was
post_or word _ was = was

-- the value of a word's last post, 0 at first
abbrev pub posted_on : Word → History → ℕ
posted_on word [] = 0
posted_on word (step ∷ before) = post_or word step.act (posted_on word before)

abbrev pub posts_after : Word → Act → ℕ → ℕ
posts_after word (Post w value) was = if same_word w word then was + 1 else was
posts_after word _ was = was

-- how many posts a word had
abbrev pub post_count : Word → History → ℕ
post_count word [] = 0
post_count word (step ∷ before) = posts_after word step.act (post_count word before)
