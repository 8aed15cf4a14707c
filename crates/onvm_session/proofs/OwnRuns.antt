-- The frames that were pulled make a run of the plan.
use Rattle.std.proofs.Common.{◌≡◌, ◌≢◌, ℕ, zero, suc, ◌+◌, ◌<◌, ◌≤◌, inl, inr, List, [], ◌∷◌, ◌++◌, length, refl, sym, ◌∙◌, ap, arith, append-nil, Some}
use Rattle.std.specs.Prelude.{All, ◌==◌, nat_lt, slice_get}
use Rattle.std.proofs.lemmas.Bool.{cases_Bool, eq-eqb, ltb-false, ltb-true, ne_eqb}
use Rattle.std.proofs.lemmas.Bool.Decides.{eqb_tells}
use Rattle.std.proofs.lemmas.List.Elements.{All-append, All-cons, All-nil}
use Rattle.onvm_base.specs.declared.frame.Frame.{Frame}
use Rattle.onvm_base.specs.declared.ids.PortId.{PortId}
use Rattle.onvm_base.specs.declared.limits.TheConstants.{MAX_PORT_FRAMES}
use Rattle.onvm_base.specs.declared.plan.Plan.{Plan}
use Rattle.onvm_core.specs.declared.entry.Entry.{Entry}
use Rattle.onvm_core.specs.declared.layout.Layout.{Layout}
use Rattle.onvm_core.proofs.Lists.{if_met, if_unmet}
use Rattle.onvm_core.specs.Layouts.{IsLayoutOf}
use Rattle.onvm_core.specs.Logs.{Setting, entries_of_port}
use Rattle.onvm_packet.specs.Heads.{heads_of}
use Rattle.onvm_promises.specs.Entries.{IsRunOf, entries_from, entry_of}
use Rattle.rx_pass.proofs.Entering.{chain_known}
use Rattle.onvm_session.proofs.Growing.{some_inj}

abbrev pub port_id : ℕ → PortId
port_id port = record { 0 = port }

-- the entries of the first n ports, port by port
abbrev pub entries_below : Plan → (ℕ → List Frame) → ℕ → List Entry
entries_below plan frames zero = []
entries_below plan frames (suc n) = entries_below plan frames n ++ entries_from plan (port_id n) 0 (frames n)

abbrev pub own_run : Layout → Plan → (ℕ → List Frame) → Setting
own_run layout plan frames =
    record { layout = layout; plan = plan; entries = entries_below plan frames layout.ports }

-- Entries of one port

own : (plan : Plan) (port done : ℕ) (frames : List Frame)
    → entries_of_port port (entries_from plan (port_id port) done frames) ≡ entries_from plan (port_id port) done frames
own plan port done [] = refl
own plan port done (f ∷ fs) =
    let e : Entry = entry_of plan (port_id port) (done + 1) f in
    let es : List Entry = entries_from plan (port_id port) (done + 1) fs in
    if_met (port == port) (e ∷ entries_of_port port es) (entries_of_port port es) (eq-eqb port port refl)
    ∙ ap (λ (xs : List Entry). e ∷ xs) (own plan port (done + 1) fs)

foreign : (plan : Plan) (port other done : ℕ) (frames : List Frame) → other ≢ port
    → entries_of_port port (entries_from plan (port_id other) done frames) ≡ []
foreign plan port other done [] apart = refl
foreign plan port other done (f ∷ fs) apart =
    let e : Entry = entry_of plan (port_id other) (done + 1) f in
    let es : List Entry = entries_from plan (port_id other) (done + 1) fs in
    if_unmet (other == port) (e ∷ entries_of_port port es) (entries_of_port port es) (ne_eqb other port apart)
    ∙ foreign plan port other (done + 1) fs apart

of_both : (port : ℕ) (xs ys : List Entry)
    → entries_of_port port (xs ++ ys) ≡ entries_of_port port xs ++ entries_of_port port ys
of_both port [] ys = refl
of_both port (x ∷ xs) ys = elim (eqb_tells x.frame.port.0 port) [
  | inl same ↦
      let met = eq-eqb x.frame.port.0 port same.1 in
      if_met (x.frame.port.0 == port) (x ∷ entries_of_port port (xs ++ ys)) (entries_of_port port (xs ++ ys)) met
      ∙ ap (λ (es : List Entry). x ∷ es) (of_both port xs ys)
      ∙ ap (λ (es : List Entry). es ++ entries_of_port port ys)
      (sym (if_met (x.frame.port.0 == port) (x ∷ entries_of_port port xs) (entries_of_port port xs) met))
  | inr other ↦
      let unmet = ne_eqb x.frame.port.0 port other.1 in
      if_unmet (x.frame.port.0 == port) (x ∷ entries_of_port port (xs ++ ys)) (entries_of_port port (xs ++ ys)) unmet
      ∙ of_both port xs ys
      ∙ ap (λ (es : List Entry). es ++ entries_of_port port ys)
      (sym (if_unmet (x.frame.port.0 == port) (x ∷ entries_of_port port xs) (entries_of_port port xs) unmet))
]

-- a port behind the first n has none
none_behind : (plan : Plan) (frames : ℕ → List Frame) (n port : ℕ) → n ≤ port
    → entries_of_port port (entries_below plan frames n) ≡ []
none_behind plan frames zero port past = refl
none_behind plan frames (suc n) port past =
    of_both port (entries_below plan frames n) (entries_from plan (port_id n) 0 (frames n))
    ∙ ap (λ (es : List Entry). es ++ entries_of_port port (entries_from plan (port_id n) 0 (frames n)))
    (none_behind plan frames n port (omega (arith, past)))
    ∙ foreign plan port n 0 (frames n) (λ e. omega (arith, e, past))

-- and each of them its frames
port_enters : (plan : Plan) (frames : ℕ → List Frame) (n port : ℕ) → port < n
    → entries_of_port port (entries_below plan frames n) ≡ entries_from plan (port_id port) 0 (frames port)
port_enters plan frames zero port under = absurd (omega (arith, under))
port_enters plan frames (suc n) port under =
    of_both port (entries_below plan frames n) (entries_from plan (port_id n) 0 (frames n))
    ∙ elim (eqb_tells n port) [
      | inl same ↦
          ap (λ (es : List Entry). es ++ entries_of_port port (entries_from plan (port_id n) 0 (frames n)))
          (none_behind plan frames n port (omega (arith, same.1)))
          ∙ ap (λ (k : ℕ). entries_of_port port (entries_from plan (port_id k) 0 (frames k))) same.1
          ∙ own plan port 0 (frames port)
      | inr other ↦
          ap (λ (es : List Entry). entries_of_port port (entries_below plan frames n) ++ es)
          (foreign plan port n 0 (frames n) other.1)
          ∙ append-nil (entries_of_port port (entries_below plan frames n))
          ∙ port_enters plan frames n port (omega (arith, under, other.1))
    ]

-- Numbers, ports and chains

numbers : (plan : Plan) (port done : ℕ) (frames : List Frame) (at : ℕ) (e : Entry)
    → slice_get (entries_from plan (port_id port) done frames) at ≡ Some e
    → e.frame ≡ record { port = port_id port; number = done + at + 1 }
numbers plan port done [] at e found = absurd (cc found)
numbers plan port done (f ∷ fs) zero e found =
    ap (λ x. x.frame) (sym (some_inj (entry_of plan (port_id port) (done + 1) f) e found))
    ∙ ap (λ (n : ℕ). record { port = port_id port; number = n }) (omega arith)
numbers plan port done (f ∷ fs) (suc at) e found =
    numbers plan port (done + 1) fs at e found
    ∙ ap (λ (n : ℕ). record { port = port_id port; number = n }) (omega arith)

many : (plan : Plan) (port : PortId) (done : ℕ) (frames : List Frame)
    → length (entries_from plan port done frames) ≡ length frames
many plan port done [] = refl
many plan port done (f ∷ fs) = ap suc (many plan port (done + 1) fs)

module _ (layout : Layout) (plan : Plan) (frames : ℕ → List Frame) (is : IsLayoutOf plan layout)
    (behind : (port : ℕ) → layout.ports ≤ port → frames port ≡ [])
    (few : (port : ℕ) → length (frames port) ≤ MAX_PORT_FRAMES) where
  enters : (port : ℕ) → entries_of_port port (own_run layout plan frames).entries
      ≡ entries_from plan (port_id port) 0 (frames port)
  enters port = elim (cases_Bool (nat_lt port layout.ports)) [
    | inl under ↦ port_enters plan frames layout.ports port (ltb-true port layout.ports under)
    | inr over ↦
        let past = ltb-false port layout.ports over in
        none_behind plan frames layout.ports port past
        ∙ ap (entries_from plan (port_id port) 0) (sym (behind port past))
  ]

  from_port : (port done : ℕ) (fs : List Frame) → port < layout.ports
      → All (λ e. e.frame.port.0 < layout.ports) (entries_from plan (port_id port) done fs)
  from_port port done [] known = All-nil _
  from_port port done (f ∷ fs) known =
      All-cons (λ (e : Entry). e.frame.port.0 < layout.ports) (entry_of plan (port_id port) (done + 1) f)
      (entries_from plan (port_id port) (done + 1) fs) known (from_port port (done + 1) fs known)

  ports_below : (n : ℕ) → n ≤ layout.ports → All (λ e. e.frame.port.0 < layout.ports) (entries_below plan frames n)
  ports_below zero upto = All-nil _
  ports_below (suc n) upto =
      All-append (λ (e : Entry). e.frame.port.0 < layout.ports) (entries_below plan frames n) _
      (ports_below n (omega (arith, upto))) (from_port n 0 (frames n) (omega (arith, upto)))

  of_chains : (port done : ℕ) (fs : List Frame)
      → All (λ e. e.chain.0 < length plan.chains) (entries_from plan (port_id port) done fs)
  of_chains port done [] = All-nil _
  of_chains port done (f ∷ fs) =
      All-cons (λ (e : Entry). e.chain.0 < length plan.chains) (entry_of plan (port_id port) (done + 1) f)
      (entries_from plan (port_id port) (done + 1) fs) (chain_known plan (port_id port) (heads_of f.packet))
      (of_chains port (done + 1) fs)

  chains_below : (n : ℕ) → All (λ e. e.chain.0 < length plan.chains) (entries_below plan frames n)
  chains_below zero = All-nil _
  chains_below (suc n) =
      All-append (λ (e : Entry). e.chain.0 < length plan.chains) (entries_below plan frames n) _ (chains_below n)
      (of_chains n 0 (frames n))

  pub own_run_is : IsRunOf plan frames (own_run layout plan frames)
  own_run_is = record {
    setting_is = record {
      layout = is;
      numbered = λ port done e found.
          numbers plan port 0 (frames port) done e
          (ap (λ (es : List Entry). slice_get es done) (sym (enters port)) ∙ found)
          ∙ ap (λ (n : ℕ). record { port = port_id port; number = n }) (omega arith);
      ports = ports_below layout.ports (omega arith);
      chains = chains_below layout.ports;
      few = λ port.
          let same = ap (length {A = Entry}) (enters port) in
          let long = many plan (port_id port) 0 (frames port) in
          let short = few port in
          omega (arith, same, long, short);
    };
    plan_is = refl;
    enter = enters;
  }
