-- What was taken of a source since a moment, take by take.
use Rattle.std.proofs.Common.{◌≡◌, ◌≢◌, ◌∙◌, sym, ap, subst, refl, ℕ, ◌+◌, ◌<◌, Bool, true, false, List, [], ◌∷◌, ◌++◌, length, Option, Some, None, arith}
use Rattle.std.proofs.lemmas.List.{append-nil, length-append}
use Rattle.std.specs.Io.KnownBytes.{Consumes, IsAtEnd, Keeps}
use Rattle.onvm_host.specs.Deeds.{Amounts}
use Rattle.onvm_host.specs.Moved.{Moved}
use Rattle.onvm_host.proofs.Bytes.{Consumes-append, Consumes-keeps}
use Rattle.onvm_host.proofs.Moved.{Moved-append, Moved-one, one_more}
use Rattle.rx_feed.specs.Standing.{IsTakenSince, Standing, last_takes}
use Rattle.rx_feed.specs.declared.fault.FeedFault.{FeedFault}
use Rattle.rx_feed.specs.declared.fault.FeedFault.TheVariants.{Read, Capture, TooMany}

-- no take was the last yet
none_last : (complete : Bool) (fault : Option FeedFault) → complete ≡ false → fault ≡ None → last_takes complete fault ≡ []
none_last complete fault going sound =
    let P : Bool → Option FeedFault → Type 0 = λ c f. last_takes c f ≡ [] in
    subst (λ c. P c fault) (sym going) (subst (λ f. P false f) (sym sound) refl)

last_is : (complete complete' : Bool) (fault fault' : Option FeedFault) → complete ≡ complete' → fault ≡ fault'
    → last_takes complete fault ≡ last_takes complete' fault'
last_is complete complete' fault fault' same told =
    ap (λ (c : Bool). last_takes c fault) same ∙ ap (λ (f : Option FeedFault). last_takes complete' f) told

-- the calls before the last
calls_going : (takes t earlier : Amounts) (s : Standing) → s.complete ≡ false → s.fault ≡ None
    → t ≡ takes ++ (earlier ++ last_takes s.complete s.fault) → t ≡ takes ++ earlier
calls_going takes t earlier s going sound calls =
    calls ∙ ap (λ x. takes ++ (earlier ++ x)) (none_last s.complete s.fault going sound) ∙ ap (λ x. takes ++ x) (append-nil earlier)

-- nothing was taken
pub taken_same : (left l : Option (List ℕ)) (takes t : Amounts) (s s' : Standing) → s'.taken ≡ s.taken
    → s'.complete ≡ s.complete → s'.fault ≡ s.fault → IsTakenSince left l takes t s → IsTakenSince left l takes t s'
taken_same left l takes t s s' taken complete fault since =
    let P : List ℕ → Type 0 = λ x. Consumes left l x in
    let Q : List ℕ → Type 0 = λ x. Moved (length x) since.earlier in
    record {
      consumed = subst P (sym taken) since.consumed;
      earlier = since.earlier;
      calls = since.calls
          ∙ ap (λ x. takes ++ (since.earlier ++ x)) (sym (last_is s'.complete s.complete s'.fault s.fault complete fault));
      moved = subst Q (sym taken) since.moved;
      at_end = λ end. since.at_end (sym complete ∙ end);
    }

-- a take gave bytes
pub taken_more : (left l l' : Option (List ℕ)) (takes t t' : Amounts) (s s' : Standing) (bytes : List ℕ)
    → s.complete ≡ false → s.fault ≡ None → s'.complete ≡ false → s'.fault ≡ None → s'.taken ≡ s.taken ++ bytes
    → Consumes l l' bytes → 0 < length bytes → t' ≡ t ++ Some (length bytes) ∷ []
    → IsTakenSince left l takes t s → IsTakenSince left l' takes t' s'
taken_more left l l' takes t t' s s' bytes going sound going' sound' taken consumed some call since =
    let P : List ℕ → Type 0 = λ x. Consumes left l' x in
    let Q : ℕ → Type 0 = λ n. Moved n (since.earlier ++ Some (length bytes) ∷ []) in
    record {
      consumed = subst P (sym taken) (Consumes-append left l l' s.taken bytes since.consumed consumed);
      earlier = since.earlier ++ Some (length bytes) ∷ [];
      calls = one_more takes t t' since.earlier (Some (length bytes))
          (calls_going takes t since.earlier s going sound since.calls) call
          ∙ ap (λ x. takes ++ x) (sym (append-nil (since.earlier ++ Some (length bytes) ∷ [])))
          ∙ ap (λ x. takes ++ ((since.earlier ++ Some (length bytes) ∷ []) ++ x))
          (sym (none_last s'.complete s'.fault going' sound'));
      moved = subst Q (sym (ap (length {A = ℕ}) taken ∙ length-append s.taken bytes))
          (Moved-append (length s.taken) (length bytes) since.earlier (Some (length bytes) ∷ []) since.moved
          (Moved-one (length bytes) some));
      at_end = λ end. let clash : false ≡ true = sym going' ∙ end in absurd (cc);
    }

-- a last take: it gave nothing, at the end, or it failed
taken_last : (left l l' : Option (List ℕ)) (takes t t' : Amounts) (s s' : Standing) (last : Option ℕ)
    → s.complete ≡ false → s.fault ≡ None → s'.taken ≡ s.taken → Keeps l l' → t' ≡ t ++ last ∷ []
    → last_takes s'.complete s'.fault ≡ last ∷ [] → (s'.complete ≡ true → IsAtEnd l')
    → IsTakenSince left l takes t s → IsTakenSince left l' takes t' s'
taken_last left l l' takes t t' s s' last going sound taken keeps call is end since =
    let P : List ℕ → Type 0 = λ x. Consumes left l' x in
    let Q : List ℕ → Type 0 = λ x. Moved (length x) since.earlier in
    record {
      consumed = subst P (sym taken) (Consumes-keeps left l l' s.taken since.consumed keeps);
      earlier = since.earlier;
      calls = one_more takes t t' since.earlier last (calls_going takes t since.earlier s going sound since.calls) call
          ∙ ap (λ x. takes ++ (since.earlier ++ x)) (sym is);
      moved = subst Q (sym taken) since.moved;
      at_end = end;
    }

keeps_nothing : (l l' : Option (List ℕ)) → Consumes l l' [] → Keeps l l'
keeps_nothing None l' is = tt
keeps_nothing (Some x) None is = is
keeps_nothing (Some x) (Some y) is = sym is

-- a take found the end
pub taken_end : (left l l' : Option (List ℕ)) (takes t t' : Amounts) (s s' : Standing)
    → s.complete ≡ false → s.fault ≡ None → s'.taken ≡ s.taken → s'.complete ≡ true → Consumes l l' [] → IsAtEnd l'
    → t' ≡ t ++ Some 0 ∷ [] → IsTakenSince left l takes t s → IsTakenSince left l' takes t' s'
taken_end left l l' takes t t' s s' going sound taken complete consumed end call since =
    taken_last left l l' takes t t' s s' (Some 0) going sound taken (keeps_nothing l l' consumed) call
    (ap (λ (c : Bool). last_takes c s'.fault) complete) (λ _. end) since

-- a take failed
pub taken_fail : (left l l' : Option (List ℕ)) (takes t t' : Amounts) (s s' : Standing)
    → s.complete ≡ false → s.fault ≡ None → s'.taken ≡ s.taken → s'.complete ≡ false → s'.fault ≡ Some Read → Keeps l l'
    → t' ≡ t ++ None ∷ [] → IsTakenSince left l takes t s → IsTakenSince left l' takes t' s'
taken_fail left l l' takes t t' s s' going sound taken going' told keeps call since =
    taken_last left l l' takes t t' s s' None going sound taken keeps call
    (last_is s'.complete false s'.fault (Some Read) going' told)
    (λ end. let clash : false ≡ true = sym going' ∙ end in absurd (cc)) since

-- another stop than a failed take
no_take : (complete : Bool) (fault : FeedFault) → fault ≢ Read → last_takes complete (Some fault) ≡ last_takes complete None
no_take true fault other = refl
no_take false Read other = absurd (other refl)
no_take false (Capture fault) other = refl
no_take false TooMany other = refl

pub taken_stop : (left l : Option (List ℕ)) (takes t : Amounts) (s s' : Standing) (fault : FeedFault) → fault ≢ Read
    → s.fault ≡ None → s'.taken ≡ s.taken → s'.complete ≡ s.complete → s'.fault ≡ Some fault
    → IsTakenSince left l takes t s → IsTakenSince left l takes t s'
taken_stop left l takes t s s' fault other sound taken complete told since =
    let P : List ℕ → Type 0 = λ x. Consumes left l x in
    let Q : List ℕ → Type 0 = λ x. Moved (length x) since.earlier in
    let last : last_takes s'.complete s'.fault ≡ last_takes s.complete s.fault =
    last_is s'.complete s.complete s'.fault (Some fault) complete told ∙ no_take s.complete fault other
    ∙ ap (λ (f : Option FeedFault). last_takes s.complete f) (sym sound) in
    record {
      consumed = subst P (sym taken) since.consumed;
      earlier = since.earlier;
      calls = since.calls ∙ ap (λ x. takes ++ (since.earlier ++ x)) (sym last);
      moved = subst Q (sym taken) since.moved;
      at_end = λ end. since.at_end (sym complete ∙ end);
    }
