-- Roles take seats, one after the other from the last role on, and leave them from role 0 on.
use Rattle.std.proofs.Common.{◌≡◌, ◌≢◌, ℕ, zero, suc, ◌+◌, ◌<◌, ◌≤◌, true, false, List, [], ◌∷◌, ◌++◌, length, refl, sym, ◌∙◌, ap, subst, arith, append-nil, append_assoc, get_or-set_same, get_or-set_other, Some}
use Rattle.std.specs.Prelude.{◌-◌, ◌==◌, slice_get, slice_index_or, slice_set}
use Rattle.std.proofs.lemmas.Bool.{ne_eqb}
use Rattle.std.proofs.lemmas.List.{length-append, length-set, length_push}
use Rattle.onvm_core.proofs.Lists.{if_unmet}
use Rattle.onvm_core.specs.declared.step.Act.TheVariants.{Join, Split}
use Rattle.onvm_core.specs.Logs.{Log}
use Rattle.onvm_board.specs.Known.{is_split_in}
use Rattle.onvm_board.specs.Tokens.{BoardView, IsRoleOf, TokenView, kept_log, split_token, token_after, token_after_join}
use Rattle.onvm_promises.specs.Answers.{is_complete}
use Rattle.onvm_session.proofs.Growing.{got_below, some_inj}
use Rattle.onvm_session.specs.declared.manager.Manager.{Manager}
use Rattle.onvm_session.specs.declared.role.Role.{Role}
use Rattle.onvm_session.specs.declared.seat.Seat.{Seat}
use Rattle.onvm_session.specs.Boards.{token_after_splits}
use Rattle.onvm_session.specs.Seats.{AreJoinable, AreRolesOf, AreSeated, AreTokensJoined, IsSeated, OfEachSeat}
use Rattle.onvm_session.specs.Sessions.{lengths_of}
use Rattle.onvm_session.specs.Views.{splits}

-- Places of lists

got_here : {A : Type 0} (xs : List A) (x : A) (ys : List A) → slice_get (xs ++ x ∷ ys) (length xs) ≡ Some x
got_here [] x ys = refl
got_here (y ∷ xs) x ys = got_here xs x ys

got_front : {A : Type 0} (xs ys : List A) (at : ℕ) (x : A) → slice_get xs at ≡ Some x
    → slice_get (xs ++ ys) at ≡ Some x
got_front [] ys at x found = absurd (cc found)
got_front (y ∷ xs) ys zero x found = found
got_front (y ∷ xs) ys (suc at) x found = got_front xs ys at x found

-- what holds at each place holds behind a push, where it holds of what was pushed
each_push : {A : Type 0} (holds : ℕ → A → Type 0) (xs : List A) (x : A)
    → ((at : ℕ) (y : A) → slice_get xs at ≡ Some y → holds at y)
    → holds (length xs) x
    → (at : ℕ) (y : A) → slice_get (xs ++ x ∷ []) at ≡ Some y → holds at y
each_push holds [] x each own zero y found = subst (holds 0) (some_inj x y found) own
each_push holds [] x each own (suc at) y found = absurd (cc found)
each_push holds (z ∷ xs) x each own zero y found = each zero y found
each_push holds (z ∷ xs) x each own (suc at) y found =
    each_push (λ n. holds (suc n)) xs x (λ n w there. each (suc n) w there) own at y found

-- of one seat more before these
each_seat_more : {I N : Type 0} (holds : ℕ → Seat I N → Type 0) (seat : Seat I N) (seats : List (Seat I N))
    → holds (length seats) seat → OfEachSeat holds seats → OfEachSeat holds (seat ∷ seats)
each_seat_more holds seat seats own each zero other found =
    let number : length seats ≡ length (seat ∷ seats) - 1 - 0 = omega arith in
    subst (holds (length (seat ∷ seats) - 1 - 0)) (some_inj seat other found)
    (subst (λ (r : ℕ). holds r seat) number own)
each_seat_more holds seat seats own each (suc at) other found =
    let number : length seats - 1 - at ≡ length (seat ∷ seats) - 1 - suc at = omega arith in
    subst (λ (r : ℕ). holds r other) number (each at other found)

-- of the seat with these before and behind it
seat_here : {I N : Type 0} (holds : ℕ → Seat I N → Type 0) (seats left gone : List (Seat I N)) (seat : Seat I N)
    → seats ≡ left ++ seat ∷ gone → OfEachSeat holds seats → holds (length gone) seat
seat_here holds seats left gone seat parts each =
    let many : length seats ≡ length left + length (seat ∷ gone) = ap length parts ∙ length-append left (seat ∷ gone) in
    let number : length seats - 1 - length left ≡ length gone = omega (arith, many) in
    subst (λ (r : ℕ). holds r seat) number
    (each (length left) seat (ap (λ xs. slice_get xs (length left)) parts ∙ got_here left seat gone))

-- Seats are taken

-- the first token split the roles from this one on, so many
abbrev pub token_after_some : (many from : ℕ) → TokenView → TokenView
token_after_some many from token = record token { log = splits many from ++ token.log }

splits_keep : (n from role : ℕ) (log : Log) → role < from
    → is_split_in role (splits n from ++ log) ≡ is_split_in role log
splits_keep zero from role log less = refl
splits_keep (suc n) from role log less =
    if_unmet (from == role) true (is_split_in role (splits n (from + 1) ++ log))
    (ne_eqb from role (λ e. omega (arith, e, less)))
    ∙ splits_keep n (from + 1) role log (omega (arith, less))

-- the roles from the last one on have taken these seats
pub record AreSeating {I N : Type 0} (old now : Manager I N) (latest : ℕ) (seats : List (Seat I N)) : Type 0 where
  pub behind : List (Role I N)
  pub parts : old.roles.items ≡ now.roles.items ++ behind
  pub many : length now.roles.items + length seats ≡ length old.roles.items
  pub first : now.first ≡ token_after_some (length seats) (length now.roles.items) old.first
  pub each : (at : ℕ) (seat : Seat I N) → slice_get seats at ≡ Some seat
      → IsSeated old latest (length old.roles.items - 1 - at) seat

pub seating_begins : {I N : Type 0} (old : Manager I N) (latest : ℕ) (seats : List (Seat I N)) → seats ≡ []
    → AreSeating old old latest seats
seating_begins old latest seats none = subst (AreSeating old old latest) (sym none) (record {
  behind = [];
  parts = sym (append-nil old.roles.items);
  many = omega arith;
  first = refl;
  each = λ at seat found. absurd (cc found);
})

-- the last role's seat
pub record IsSeatOfLast {I N : Type 0} (was now : Manager I N) (latest : ℕ) (seat : Seat I N) : Type 0 where
  pub roles : was.roles.items ≡ now.roles.items ++ seat.role ∷ []
  pub number_is : seat.number ≡ length now.roles.items
  pub token : seat.token ≡ split_token (length now.roles.items) was.first
  pub first : now.first ≡ token_after (Split (length now.roles.items)) was.first
  pub latest_is : seat.latest ≡ latest
  pub complete : is_complete seat.answer ≡ true

module _ {I N : Type 0} (old was : Manager I N) (latest : ℕ) (seats : List (Seat I N))
    (seating : AreSeating old was latest seats)
  where
    -- the last role isn't split now, if it wasn't at first
    pub last_unsplit : (role : ℕ) → role < length was.roles.items → is_split_in role old.first.log ≡ false
        → is_split_in role was.first.log ≡ false
    last_unsplit role less joined =
        ap (λ (t : TokenView). is_split_in role t.log) seating.first
        ∙ splits_keep (length seats) (length was.roles.items) role old.first.log less
        ∙ joined

    module _ (now : Manager I N) (seat : Seat I N) (last : IsSeatOfLast was now latest seat) where
      number : ℕ
      number = length now.roles.items

      one_less : length was.roles.items ≡ length now.roles.items + 1
      one_less = ap length last.roles ∙ length_push now.roles.items seat.role

      parts_now : old.roles.items ≡ now.roles.items ++ seat.role ∷ seating.behind
      parts_now =
          seating.parts ∙ ap (λ (roles : List (Role I N)). roles ++ seating.behind) last.roles
          ∙ append_assoc now.roles.items (seat.role ∷ []) seating.behind

      one_more : length (seats ++ seat ∷ []) ≡ suc (length seats)
      one_more = let pushed = length_push seats seat in omega (arith, pushed)

      pub seating_next : (after : List (Seat I N)) → after ≡ seats ++ seat ∷ [] → AreSeating old now latest after
      seating_next after pushed = subst (AreSeating old now latest) (sym pushed) (record {
        behind = seat.role ∷ seating.behind;
        parts = parts_now;
        many = omega (arith, seating.many, one_less, one_more);
        first =
            last.first
            ∙ ap (token_after (Split (length now.roles.items))) seating.first
            ∙ ap (λ (n : ℕ). record old.first {
              log = Split (length now.roles.items) ∷ splits (length seats) n ++ old.first.log;
            }) one_less
            ∙ ap (λ (n : ℕ). token_after_some n (length now.roles.items) old.first) (sym one_more);
        each = each_push (λ at seat. IsSeated old latest (length old.roles.items - 1 - at) seat) seats seat seating.each
            (subst (λ (r : ℕ). IsSeated old latest r seat) at_end seated);
      })
        where
          at_end : length now.roles.items ≡ length old.roles.items - 1 - length seats
          at_end = omega (arith, seating.many, one_less)

          seated : IsSeated old latest (length now.roles.items) seat
          seated = record {
            number_is = last.number_is;
            role =
                ap (λ (roles : List (Role I N)). slice_get roles (length now.roles.items)) parts_now
                ∙ got_here now.roles.items seat.role seating.behind;
            token = last.token ∙ ap (split_token (length now.roles.items)) seating.first;
            latest_is = last.latest_is;
            complete = last.complete;
          }

    -- where no role is left, all have seats
    pub all_seated : length was.roles.items ≡ 0 → AreSeated old latest seats
    all_seated none =
        let many : length seats ≡ length old.roles.items = omega (arith, none, seating.many) in
        record {
          many = many;
          each = λ at seat found.
              subst (λ (n : ℕ). IsSeated old latest (n - 1 - at) seat) (sym many) (seating.each at seat found);
        }

    pub all_split : length was.roles.items ≡ 0
        → was.first ≡ token_after_splits (length old.roles.items) old.first
    all_split none =
        let many : length seats ≡ length old.roles.items = omega (arith, none, seating.many) in
        seating.first
        ∙ ap (λ (n : ℕ). token_after_some n (length was.roles.items) old.first) many
        ∙ ap (λ (n : ℕ). token_after_some (length old.roles.items) n old.first) none

-- Seats are left

-- of these seats the last were left, and their roles are these
pub record AreLeaving {I N : Type 0} (seats left : List (Seat I N)) (roles : List (Role I N)) : Type 0 where
  pub gone : List (Seat I N)
  pub parts : seats ≡ left ++ gone
  pub roles_are : AreRolesOf gone roles

pub leaving_begins : {I N : Type 0} (seats : List (Seat I N)) (roles : List (Role I N)) → roles ≡ []
    → AreLeaving seats seats roles
leaving_begins seats roles none = record {
  gone = [];
  parts = sym (append-nil seats);
  roles_are = record { many = ap length none; each = λ at seat found. absurd (cc found) };
}

parts_next : {I N : Type 0} (seats left now gone : List (Seat I N)) (seat : Seat I N) → seats ≡ left ++ gone
    → left ≡ now ++ seat ∷ [] → seats ≡ now ++ seat ∷ gone
parts_next {I} {N} seats left now gone seat parts last =
    parts ∙ ap (λ (xs : List (Seat I N)). xs ++ gone) last ∙ append_assoc now (seat ∷ []) gone

pub leaving_next : {I N : Type 0} (seats left now : List (Seat I N)) (roles after : List (Role I N)) (seat : Seat I N)
    → AreLeaving seats left roles → left ≡ now ++ seat ∷ [] → after ≡ roles ++ seat.role ∷ []
    → AreLeaving seats now after
leaving_next {I} {N} seats left now roles after seat leaving last pushed = record {
  gone = seat ∷ leaving.gone;
  parts = parts_next seats left now leaving.gone seat leaving.parts last;
  roles_are = subst (AreRolesOf (seat ∷ leaving.gone)) (sym pushed) (record {
    many =
        let longer = length_push roles seat.role in
        let many = leaving.roles_are.many in
        omega (arith, longer, many);
    each = each_seat_more (λ r other. slice_get (roles ++ seat.role ∷ []) r ≡ Some other.role) seat leaving.gone
        (subst (λ (r : ℕ). slice_get (roles ++ seat.role ∷ []) r ≡ Some seat.role) leaving.roles_are.many
        (got_here roles seat.role []))
        (λ at other found.
        got_front roles (seat.role ∷ []) (length leaving.gone - 1 - at) other.role
        (leaving.roles_are.each at other found));
  });
}

-- the token of the last seat that is left can be joined
pub last_joinable : {I N : Type 0} (site : BoardView) (seats left now : List (Seat I N)) (roles : List (Role I N))
    (seat : Seat I N) → AreJoinable site seats → AreLeaving seats left roles → left ≡ now ++ seat ∷ []
    → IsRoleOf site seat.token × (seat.token.hand ≡ [])
last_joinable site seats left now roles seat joinable leaving last =
    let gone = leaving.gone in
    let parts = parts_next seats left now gone seat leaving.parts last in
    let many = ap length parts ∙ length-append now (seat ∷ gone) in
    let is = seat_here (λ r other. (other.token.board ≡ site.id) × (other.token.role ≡ r) × (other.token.hand ≡ [])) seats
    now gone seat parts joinable.each in
    (record { board = is.0; below = omega (arith, many, is.1, joinable.many) }, is.2)

-- where no seat is left, the roles are those of all seats
none_gone : {I N : Type 0} (seats left gone : List (Seat I N)) → seats ≡ left ++ gone → length left ≡ 0 → gone ≡ seats
none_gone seats [] gone parts none = sym parts
none_gone seats (s ∷ left) gone parts none = absurd (omega (arith, none))

pub all_left : {I N : Type 0} (seats left : List (Seat I N)) (roles : List (Role I N)) → AreLeaving seats left roles
    → length left ≡ 0 → AreRolesOf seats roles
all_left {I} {N} seats left roles leaving none =
    subst (λ (xs : List (Seat I N)). AreRolesOf xs roles) (none_gone seats left leaving.gone leaving.parts none)
    leaving.roles_are

-- Tokens are joined

joins_begin : {I N : Type 0} (old : TokenView) → AreTokensJoined {I = I} {N = N} [] old old
joins_begin old = record {
  board = refl;
  role = refl;
  hand = refl;
  log = refl;
  many = refl;
  own = λ at seat found. absurd (cc found);
  others = λ r behind. refl;
  counts = refl;
}

same_lengths : (logs others : ℕ → Log) (n : ℕ) → ((r : ℕ) → r < n → logs r ≡ others r)
    → lengths_of logs n ≡ lengths_of others n
same_lengths logs others zero same = refl
same_lengths logs others (suc n) same =
    λ i. length (same n (omega arith) i)
    ∷ same_lengths logs others n (λ r less. same r (omega (arith, less))) i

module _ {I N : Type 0} (gone : List (Seat I N)) (old now : TokenView) (seat : Seat I N)
    (joined : AreTokensJoined gone old now) (own : seat.token.role ≡ length gone)
    (below : length gone < length now.logs)
  where
    own_log : kept_log (length gone) (token_after_join now seat.token) ≡ seat.token.log
    own_log =
        subst (λ (r : ℕ). slice_index_or (slice_set now.logs seat.token.role seat.token.log) r [] ≡ seat.token.log) own
        (get_or-set_same now.logs seat.token.role seat.token.log []
        (subst (λ (r : ℕ). r < length now.logs) (sym own) below))

    other_log : (r : ℕ) → r ≢ length gone → kept_log r (token_after_join now seat.token) ≡ kept_log r now
    other_log r apart = get_or-set_other now.logs seat.token.role r seat.token.log [] (λ e. apart (e ∙ own))

    joins_next : AreTokensJoined (seat ∷ gone) old (token_after_join now seat.token)
    joins_next = record {
      board = joined.board;
      role = joined.role;
      hand = joined.hand;
      log = λ i. Join (own i) ∷ joined.log i;
      many = length-set now.logs seat.token.role seat.token.log ∙ joined.many;
      own = each_seat_more (λ r other. kept_log r (token_after_join now seat.token) ≡ other.token.log) seat gone own_log
          (λ at other found.
          let known = got_below gone at other found in
          other_log (length gone - 1 - at) (λ e. omega (arith, e, known)) ∙ joined.own at other found);
      others = λ r behind.
          other_log r (λ e. omega (arith, e, behind)) ∙ joined.others r (omega (arith, behind));
      counts = λ i. length (sym own_log i)
          ∷ (joined.counts
          ∙ ap (λ (counts : List ℕ). counts ++ old.counts)
          (same_lengths (λ r. kept_log r now) (λ r. kept_log r (token_after_join now seat.token)) (length gone)
          (λ r less. sym (other_log r (λ e. omega (arith, e, less)))))) i;
    }

-- of these seats the last were left, their roles are these, and their tokens were joined
pub record AreJoining {I N : Type 0} (seats left : List (Seat I N)) (roles : List (Role I N)) (old now : TokenView)
    : Type 0 where
  pub leaving : AreLeaving seats left roles
  pub joined : AreTokensJoined leaving.gone old now

pub joining_begins : {I N : Type 0} (seats : List (Seat I N)) (roles : List (Role I N)) (old : TokenView) → roles ≡ []
    → AreJoining seats seats roles old old
unfolding leaving_begins
joining_begins {I} {N} seats roles old none =
    record { leaving = leaving_begins seats roles none; joined = joins_begin {I = I} {N = N} old }

pub joining_next : {I N : Type 0} (seats left now : List (Seat I N)) (roles after : List (Role I N)) (seat : Seat I N)
    (old token joined : TokenView)
    → AreJoining seats left roles old token → left ≡ now ++ seat ∷ [] → after ≡ roles ++ seat.role ∷ []
    → OfEachSeat (λ r other. other.token.role ≡ r) seats → length seats ≤ length old.logs
    → joined ≡ token_after_join token seat.token
    → AreJoining seats now after old joined
unfolding leaving_next
joining_next seats left now roles after seat old token joined joining last pushed numbers room is =
    let gone = joining.leaving.gone in
    let parts = parts_next seats left now gone seat joining.leaving.parts last in
    let many = ap length parts ∙ length-append now (seat ∷ gone) in
    let kept = joining.joined.many in
    record {
      leaving = leaving_next seats left now roles after seat joining.leaving last pushed;
      joined = subst (AreTokensJoined (seat ∷ gone) old) (sym is)
          (joins_next gone old token seat joining.joined
          (seat_here (λ r other. other.token.role ≡ r) seats now gone seat parts numbers)
          (omega (arith, many, kept, room)));
    }

pub all_joined : {I N : Type 0} (seats left : List (Seat I N)) (roles : List (Role I N)) (old token : TokenView)
    → AreJoining seats left roles old token → length left ≡ 0 → AreTokensJoined seats old token
all_joined {I} {N} seats left roles old token joining none =
    subst (λ (xs : List (Seat I N)). AreTokensJoined xs old token)
    (none_gone seats left joining.leaving.gone joining.leaving.parts none) joining.joined
