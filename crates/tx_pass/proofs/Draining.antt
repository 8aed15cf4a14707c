-- Rings drained one after another.
use Rattle.std.proofs.Common.{◌≡◌, ℕ, ◌+◌, ◌<◌, ◌≤◌, inl, inr, Bool, true, false, [], ◌∷◌, ◌++◌, sym, ◌∙◌, subst, refl, arith, nat_lt}
use Rattle.std.specs.Prelude.{◌≢◌, ◌==◌}
use Rattle.std.proofs.lemmas.Bool.{lt-ltb}
use Rattle.std.proofs.lemmas.Bool.Decides.{eqb_tells}
use Rattle.onvm_base.specs.declared.ids.FnId.{FnId}
use Rattle.onvm_base.specs.declared.ids.RingId.TheVariants.{Lane, Output, Mail}
use Rattle.onvm_base.specs.declared.plan.Plan.{Plan}
use Rattle.onvm_core.specs.declared.step.Act.{Act}
use Rattle.onvm_core.specs.declared.step.Act.TheVariants.{Pop}
use Rattle.onvm_core.specs.Layouts.{consumer}
use Rattle.onvm_core.specs.Logs.{Log}
use Rattle.onvm_core.specs.Places.{how_many, one_if}
use Rattle.onvm_core.proofs.Once.{how_many-append}
use Rattle.onvm_board.specs.Tokens.{BoardView, TokenView}
use Rattle.onvm_promises.specs.Answers.{is_moved}
use Rattle.onvm_promises.specs.Passes.{IsDrained, is_pop_of, ran_dry}
use Rattle.onvm_promises.proofs.Moving.{dry_more, dry_past, moves_append, moves_weaker, no_pops}
use Rattle.tx_pass.specs.declared.outlet.Outlet.{Outlet}
use Rattle.tx_pass.specs.Passing.{AreDrained, IsDrain}
use Rattle.tx_pass.proofs.Stretches.{no_stretch, stretch_then}

pub none_drained : (site : BoardView) (plan : Plan) (now : ℕ) (a : TokenView) (outlet : Outlet) → a.hand ≡ []
    → AreDrained site plan now 0 0 a a outlet outlet
none_drained site plan now a outlet empty = record {
  added = [];
  stretch = no_stretch site plan now a outlet empty;
  steps = tt;
  moves = refl;
  few = λ f. omega arith;
  drained = λ f less. absurd (omega (arith, less));
}

below : (f upto : ℕ) → f < upto + 1 → f ≢ upto → f < upto
below f upto less other = omega (arith, less, other)

-- the role doesn't read the ring
pub passed_by : (site : BoardView) (plan : Plan) (now : ℕ) (upto n : ℕ) (a b : TokenView) (old new : Outlet)
    → consumer site.layout (Output (record { 0 = upto })) ≢ a.role → AreDrained site plan now upto n a b old new
    → AreDrained site plan now (upto + 1) n a b old new
passed_by site plan now upto n a b old new other are = record {
  added = are.added;
  stretch = are.stretch;
  steps = moves_weaker (λ f. f.0 < upto) (λ f. f.0 < upto + 1) (λ f less. omega (arith, less)) are.added are.steps;
  moves = are.moves;
  few = are.few;
  drained = λ f less own. elim (eqb_tells f.0 upto) [
    | inl met ↦
        absurd
        (other (subst (λ (k : ℕ). consumer site.layout (Output (record { 0 = k })) ≡ a.role) met.1 own))
    | inr unmet ↦ are.drained f (below f.0 upto less unmet.1) own
  ];
}

-- the ring was drained
module _ (site : BoardView) (plan : Plan) (now : ℕ) (upto n k : ℕ) (a b c : TokenView) (old mid new : Outlet)
    (few : k ≤ plan.burst) (are : AreDrained site plan now upto n a b old mid)
    (is : IsDrain site plan now (record { 0 = upto }) k (nat_lt k plan.burst) b c mid new) where
  abbrev all : Log
  all = is.added ++ are.added

  -- pops of a ring in both
  abbrev pops : FnId → Log → ℕ
  pops f log = how_many (is_pop_of (Output f)) log

  both : (f : FnId) → pops f all ≡ pops f is.added + pops f are.added
  both f = how_many-append (is_pop_of (Output f)) is.added are.added

  here : IsDrained (Output (record { 0 = upto })) plan.burst all
  here =
      let f : FnId = record { 0 = upto } in
      let sum : pops f all ≡ pops f is.added + pops f are.added = both f in
      let none : pops f are.added ≡ 0 =
      no_pops (λ g. g.0 < upto) f (λ g less same. omega (arith, less, same)) are.added are.steps in
      let some : pops f is.added ≡ k = is.pops in record {
        bounded = omega (arith, sum, none, some, few);
        fewer = λ less.
            dry_more (Output f) is.added are.added
            (is.dries (lt-ltb k plan.burst (omega (arith, sum, none, some, less))));
      }

  few_there : (f : FnId) → f.0 ≢ upto → pops f all ≤ plan.burst
  few_there f other =
      let sum : pops f all ≡ pops f is.added + pops f are.added = both f in
      let none : pops f is.added ≡ 0 =
      no_pops (λ g. g.0 ≡ upto) f (λ g same e. other (sym e ∙ same)) is.added is.steps in
      let was : pops f are.added ≤ plan.burst = are.few f in
      omega (arith, sum, none, was)

  there : (f : FnId) → f.0 < upto → f.0 ≢ upto → consumer site.layout (Output f) ≡ a.role
      → IsDrained (Output f) plan.burst all
  there f less other own =
      let was : IsDrained (Output f) plan.burst are.added = are.drained f less own in
      let sum : pops f all ≡ pops f is.added + pops f are.added = both f in
      let none : pops f is.added ≡ 0 =
      no_pops (λ g. g.0 ≡ upto) f (λ g same e. other (sym e ∙ same)) is.added is.steps in record {
        bounded = omega (arith, sum, none, was.bounded);
        fewer = λ fewer.
            dry_past (λ g. g.0 ≡ upto) f (λ g same e. other (sym e ∙ same)) is.added are.added is.steps
            ∙ was.fewer (omega (arith, sum, none, fewer));
      }

  pub drained_next : AreDrained site plan now (upto + 1) (n + k) a c old new
  drained_next =
      let moves : how_many is_moved all ≡ how_many is_moved is.added + how_many is_moved are.added =
      how_many-append is_moved is.added are.added in record {
        added = all;
        stretch = stretch_then site plan now are.added is.added a b c old mid new are.stretch is.stretch;
        steps =
            moves_append (λ f. f.0 < upto + 1) is.added are.added
            (moves_weaker (λ f. f.0 ≡ upto) (λ f. f.0 < upto + 1) (λ f same. omega (arith, same)) is.added is.steps)
            (moves_weaker (λ f. f.0 < upto) (λ f. f.0 < upto + 1) (λ f less. omega (arith, less)) are.added are.steps);
        moves = omega (arith, moves, is.moves, are.moves);
        few = λ f. elim (eqb_tells f.0 upto) [
          | inl met ↦ subst (λ (g : ℕ). pops (record { 0 = g }) all ≤ plan.burst) (sym met.1) here.bounded
          | inr unmet ↦ few_there f unmet.1
        ];
        drained = λ f less own. elim (eqb_tells f.0 upto) [
          | inl met ↦
              subst (λ (g : ℕ). IsDrained (Output (record { 0 = g })) plan.burst all) (sym met.1) here
          | inr unmet ↦ there f (below f.0 upto less unmet.1) unmet.1 own
        ];
      }

-- Where nothing was moved each ring was found empty

one_at_most : (b : Bool) → one_if b ≤ 1
one_at_most true = omega arith
one_at_most false = omega arith

pop_is_move : (f : FnId) (act : Act) → one_if (is_pop_of (Output f) act) ≤ one_if (is_moved act)
pop_is_move f (Pop (Output g) item) = one_at_most (g.0 == f.0)
pop_is_move f (Pop (Lane g p) item) = omega arith
pop_is_move f (Pop (Mail g) item) = omega arith
pop_is_move f _ = omega arith

pops_are_moves : (f : FnId) (log : Log) → how_many (is_pop_of (Output f)) log ≤ how_many is_moved log
pops_are_moves f [] = omega arith
pops_are_moves f (act ∷ log) =
    let one = pop_is_move f act in
    let rest = pops_are_moves f log in
    omega (arith, one, rest)

pub dry_where_idle : (burst : ℕ) (f : FnId) (log : Log) → 0 < burst → how_many is_moved log ≡ 0
    → IsDrained (Output f) burst log → ran_dry (Output f) log ≡ true
dry_where_idle burst f log some none is =
    let le = pops_are_moves f log in
    is.fewer (omega (arith, le, none, some))
