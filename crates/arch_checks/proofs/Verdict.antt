-- Each text is accepted as one system, or has one fault, which is not want of memory.
use Rattle.std.proofs.Common.{◌≡◌, ◌⊎◌, inl, inr, ℕ, zero, suc, ◌+◌, ◌<◌, ◌≤◌, List, length, Option, Some, None, Result, Ok, Err, refl, sym, ap, subst, arith}
use Rattle.std.proofs.lemmas.Bool.{cases_lt}
use Rattle.tower_types.specs.Records.{saturated}
use Rattle.tower_syntax.specs.RawTree.{Id, Link, Raw}
use Rattle.tower_syntax.specs.Arch.{Arch}
use Rattle.tower_syntax.specs.Graph.{handler}
use Rattle.tower_syntax.specs.WellNumbered.{AreListeners}
use Rattle.tower_syntax.specs.Weights.{most, memory, code, cost}
use Rattle.tower_reader.specs.declared.fault.ReadFault.{ReadFault}
use Rattle.tower_reader.specs.declared.fault.ReadFault.TheVariants as read
use Rattle.tower_reader.specs.Faults as reading
use Rattle.tower_reader.specs.Spelled.{Spells}
use Rattle.tower_reader.specs.Verdict.{verdict}
use Rattle.tower_reader.proofs.Verdicts.{verdict_is}
use Rattle.arch_names.specs.declared.fault.NameFault.{NameFault}
use Rattle.arch_names.specs.declared.fault.NameFault.TheVariants as name
use Rattle.arch_names.specs.Site.{Site, declares, binds, refers, part_type, picks}
use Rattle.arch_names.specs.Site as site
use Rattle.arch_names.specs.Sites.{sites}
use Rattle.arch_names.specs.Linked.{linked}
use Rattle.arch_names.specs.Resolved.{IsLinked}
use Rattle.arch_names.specs.Resolved as naming
use Rattle.arch_names.specs.Walk.{first, meant}
use Rattle.arch_names.proofs.Whole.{clean_is, linked_is, least_is}
use Rattle.arch_types.specs.declared.fault.TypeFault.{TypeFault}
use Rattle.arch_types.specs.declared.fault.TypeFault.TheVariants as types_fault
use Rattle.arch_types.specs.File.{Offence}
use Rattle.arch_types.specs.Laws.{IsWellTyped, HasFirst}
use Rattle.arch_types.proofs.Sound.{well_numbered}
use Rattle.arch_types.proofs.Verdict.{decided, no_memory}
use Rattle.arch_order.proofs.InOrder.{names_ascend}
use Rattle.arch_order.proofs.LinkedOrder.{linked_ascends}
use Rattle.arch_order.proofs.Handlers.{numbered}
use Rattle.channel_graph.specs.declared.circuit.CycleFound.{CycleFound}
use Rattle.channel_graph.specs.Circuit.{shown, IsAcyclic}
use Rattle.channel_graph.specs.Over.{bound_of, IsOver, NoneOver}
use Rattle.channel_graph.proofs.Acyclic.{shown_none}
use Rattle.channel_graph.proofs.Chained.{chain_exists}
use Rattle.arch_checks.specs.declared.fault.What.{What}
use Rattle.arch_checks.specs.declared.fault.What.TheVariants as what
use Rattle.arch_checks.specs.declared.fault.Fault.{Fault}
use Rattle.arch_checks.specs.declared.fault.Fault.TheVariants as fault
use Rattle.arch_checks.specs.Faults.{of_read, of_name, of_type}
use Rattle.arch_checks.specs.Limits.{limit, work_limit, order}
use Rattle.arch_checks.specs.Sizes.{Counts, deepest, widest}
use Rattle.arch_checks.specs.Firsts.{IsBoundFault, IsCycleFault, AreWithin, IsSizeFault, AreCheap, IsWorkFault}
use Rattle.arch_checks.specs.Offences.{IsNamed, bound_fault, cycle_fault, size_fault, work_fault, Standing, Offends, reads, names, types, bound, cycle, size, work, IsFault}
use Rattle.arch_checks.specs.Laws.{Verdict, accepted, refused, ComesTo, OneVerdict, MemoryIsNoFault}
use Rattle.arch_checks.proofs.Limited.{what_at, order_at, within_more}
use Rattle.arch_checks.proofs.Order.{Typed, Bounded, Acyclic, Sized, read_fault, name_fault, type_fault, bound_is_fault, cycle_is_fault, size_is_fault, work_is_fault}
use Rattle.arch_checks.proofs.Order as ordered
use Rattle.arch_checks.proofs.Told.{is_named, is_typed}
use Rattle.arch_checks.proofs.Accepted.{one_system, one_fault, not_both}

-- ---- the first number of which something holds

record First (P : ℕ → Type 0) (n : ℕ) : Type 0 where
  at : ℕ
  below : at < n
  here : P at
  before : (k : ℕ) → k < at → P k → ⊥

search : (P : ℕ → Type 0) → ((k : ℕ) → P k ⊎ (P k → ⊥)) → (n : ℕ) → First P n ⊎ ((k : ℕ) → k < n → P k → ⊥)
search P decide zero = inr (λ k l h. absurd (omega (arith, l)))
search P decide (suc n) = elim (search P decide n) [
  | inl f ↦ inl (record { at = f.at; below = omega (arith, f.below); here = f.here; before = f.before })
  | inr none ↦ elim (decide n) [
    | inl h ↦ inl (record { at = n; below = omega arith; here = h; before = none })
    | inr not ↦ inr (λ k l h. elim (cases_lt k n) [
      | inl less ↦ none k less h
      | inr more ↦ let e : k ≡ n = omega (arith, l, more) in not (subst P e h)
    ])
  ]
]

-- ---- each check of a system passes, or has its first fault

is_over : (arch : Arch) (h e : ℕ) → IsOver arch h e ⊎ (IsOver arch h e → ⊥)
is_over arch h e = elim (cases_lt h (length arch.handlers)) [
  | inr past ↦ inr (λ o. let b : h < length arch.handlers = o.of in absurd (omega (arith, b, past)))
  | inl of ↦ elim (cases_lt e (length (handler arch h).emitters)) [
    | inr past ↦ inr (λ o. let b : e < length (handler arch h).emitters = o.at in absurd (omega (arith, b, past)))
    | inl at ↦ elim (cases_lt (bound_of (handler arch h) e) (most (handler arch h) e)) [
      | inr few ↦ inr (λ o. let b : bound_of (handler arch h) e < most (handler arch h) e = o.more in absurd (omega (arith, b, few)))
      | inl more ↦ inl (record { of = of; at = at; more = more })
    ]
  ]
]

abbrev OverOf : Arch → ℕ → Type 0
OverOf arch h = First (IsOver arch h) (length (handler arch h).emitters)

none_of : (arch : Arch) (h : ℕ) → ((e : ℕ) → e < length (handler arch h).emitters → IsOver arch h e → ⊥) → (e : ℕ) → IsOver arch h e → ⊥
none_of arch h none e o = none e o.at o

over_of : (arch : Arch) (h : ℕ) → OverOf arch h ⊎ (OverOf arch h → ⊥)
over_of arch h = elim (search (IsOver arch h) (is_over arch h) (length (handler arch h).emitters)) [
  | inl found ↦ inl found
  | inr none ↦ inr (λ found. none_of arch h none found.at found.here)
]

-- an emitter over its bound is found
found_over : (arch : Arch) (h e : ℕ) → IsOver arch h e → (OverOf arch h → ⊥) → ⊥
found_over arch h e o none = elim (search (IsOver arch h) (is_over arch h) (length (handler arch h).emitters)) [
  | inl found ↦ none found
  | inr other ↦ none_of arch h other e o
]

bounds_decided : (arch : Arch) → ((f : Fault) × IsBoundFault arch f) ⊎ NoneOver arch
bounds_decided arch = elim (search (OverOf arch) (over_of arch) (length arch.handlers)) [
  | inr none ↦ inr (λ h e o. found_over arch h e o (none h o.of))
  | inl found ↦
      let h : ℕ = found.at in
      let e : ℕ = found.here.at in
      inl (
        bound_fault arch h e,
        record {
          over = record { handler = h; emitter = e; most = saturated (most (handler arch h) e) };
          first = record {
            over = found.here.here;
            count = refl;
            first = λ k d before o. elim before [
              | inl earlier ↦ found_over arch k d o (found.before k earlier)
              | inr same ↦ found.here.before d same.1 (subst (λ x. IsOver arch x d) same.0 o)
            ];
          };
          told = refl;
        },
      )
]

cycle_decided : (arch : Arch) → ((f : Fault) × IsCycleFault arch f) ⊎ (shown arch ≡ None)
cycle_decided arch = by (shown arch) refl
  where
    by : (o : Option CycleFound) → shown arch ≡ o → ((f : Fault) × IsCycleFault arch f) ⊎ (shown arch ≡ None)
    by None e = inr e
    by (Some c) e = inl (cycle_fault arch c, record { found = c; shown = e; told = refl })

-- so much of each thing the system has
counted : (arch : Arch) → AreListeners arch → IsAcyclic arch → (w : What) → (n : ℕ) × Counts arch w n
counted arch listed acyclic what.Sources = (length arch.sources, refl)
counted arch listed acyclic what.Channels = (length arch.channels, refl)
counted arch listed acyclic what.Outputs = (length arch.outputs, refl)
counted arch listed acyclic what.Monitors = (length arch.monitors, refl)
counted arch listed acyclic what.Handlers = (length arch.handlers, refl)
counted arch listed acyclic what.Records = (length arch.records, refl)
counted arch listed acyclic what.Depth = (deepest arch, refl)
counted arch listed acyclic what.Words = (widest arch, refl)
counted arch listed acyclic what.Chain = let c = chain_exists arch listed acyclic in (c.handlers, c.is)
counted arch listed acyclic what.Memory = (memory arch, refl)
counted arch listed acyclic what.Code = (code arch, refl)

saturated_below : (n m : ℕ) → n ≤ m → saturated n ≤ m
saturated_below n m le = omega (arith, le)

sizes_decided : (arch : Arch) → AreListeners arch → IsAcyclic arch → (i : ℕ) → i ≤ 11 → ((f : Fault) × IsSizeFault arch f) ⊎ AreWithin arch i
sizes_decided arch listed acyclic zero few = inr (λ w n below c. absurd (omega (arith, below)))
sizes_decided arch listed acyclic (suc i) few = elim (sizes_decided arch listed acyclic i (omega (arith, few))) [
  | inl found ↦ inl found
  | inr within ↦
      let w : What = what_at i in
      let at : order w ≡ i = order_at i (omega (arith, few)) in
      let (n, counts) = counted arch listed acyclic w in
      elim (cases_lt (limit w) n) [
        | inl more ↦ inl (size_fault w n, record { «what» = w; count = n; counts = counts; more = more; before = subst (AreWithin arch) (sym at) within; told = refl })
        | inr le ↦ let step : suc i ≡ i + 1 = omega arith in inr (subst (AreWithin arch) (sym step) (within_more arch i w n (saturated n) (limit w) at within counts refl refl (saturated_below n (limit w) le)))
      ]
]

work_decided : (arch : Arch) → ((f : Fault) × IsWorkFault arch f) ⊎ AreCheap arch (length arch.sources)
work_decided arch = elim (search (λ s. work_limit < cost arch s) dear (length arch.sources)) [
  | inr none ↦ inr (λ s below. cheap s (none s below))
  | inl found ↦ inl (work_fault arch found.at, record { source = found.at; exists = found.below; more = found.here; before = λ s l. cheap s (found.before s l); told = refl })
]
  where
    dear : (s : ℕ) → (work_limit < cost arch s) ⊎ (work_limit < cost arch s → ⊥)
    dear s = elim (cases_lt work_limit (cost arch s)) [ inl l ↦ inl l | inr l ↦ inr (λ m. absurd (omega (arith, l, m))) ]

    cheap : (s : ℕ) → (work_limit < cost arch s → ⊥) → cost arch s ≤ work_limit
    cheap s never = elim (cases_lt work_limit (cost arch s)) [ inl l ↦ absurd (never l) | inr l ↦ l ]

-- ---- a text

abbrev Answered : List ℕ → Type 0
Answered bs = (v : Verdict) × ComesTo bs v

module _ (bs : List ℕ) where
  has_fault : (f : Fault) → IsFault bs f → Answered bs
  has_fault f h = (refused f, h)

  of_sized : (arch : Arch) → Sized bs arch → Answered bs
  of_sized arch s = elim (work_decided arch) [
    | inl found ↦ has_fault found.0 (work_is_fault bs arch found.0 s found.1)
    | inr cheap ↦ (accepted arch, ordered.accepted bs arch s cheap)
  ]

  of_acyclic : (arch : Arch) → AreListeners arch → IsAcyclic arch → Acyclic bs arch → Answered bs
  of_acyclic arch listed none a = elim (sizes_decided arch listed none 11 (omega arith)) [
    | inl found ↦ has_fault found.0 (size_is_fault bs arch found.0 a found.1)
    | inr within ↦ of_sized arch (record { acyclic = a; within = within })
  ]

  of_bounded : (arch : Arch) → AreListeners arch → Bounded bs arch → Answered bs
  of_bounded arch listed b = elim (cycle_decided arch) [
    | inl found ↦ has_fault found.0 (cycle_is_fault bs arch found.0 b found.1)
    | inr none ↦ of_acyclic arch listed ((shown_none arch (shown arch) listed refl).0 none) (record { bounded = b; acyclic = none })
  ]

  of_typed : (arch : Arch) → AreListeners arch → Typed bs arch → Answered bs
  of_typed arch listed t = elim (bounds_decided arch) [
    | inl found ↦ has_fault found.0 (bound_is_fault bs arch found.0 t found.1)
    | inr none ↦ of_bounded arch listed (record { typed = t; bounded = none })
  ]

  module _ (raw : Raw Id) (s : Spells bs raw) where
    of_named : (t : Raw Link) → IsLinked raw t → naming.IsClean (naming.Offences raw) → IsWellTyped t ⊎ HasFirst t → Answered bs
    of_named t l clean (inr found) = has_fault (of_type found.fault) (type_fault bs t found.fault (is_named bs raw t s l) clean found.first)
    of_named t l clean (inl typed) =
        of_typed typed.arch (well_numbered t typed.arch (numbered bs raw t s l) typed.checked).listeners (is_typed bs raw t typed.arch s l clean typed.checked typed.clean)

    of_names : (o : Option NameFault) → first (sites raw) ≡ o → Answered bs
    of_names (Some f) e = has_fault (of_name f) (name_fault bs raw f s (least_is raw f e (names_ascend bs raw s)))
    of_names None e =
        let t : Raw Link = linked meant raw in
        let l : IsLinked raw t = linked_is raw t e refl in
        of_named t l (clean_is raw e) (decided t (length bs) (numbered bs raw t s l) (linked_ascends bs raw t s l))

  of_text : (r : Result (Raw Id) ReadFault) → verdict bs ≡ r → Answered bs
  of_text (Ok raw) e = of_names raw (verdict_is bs (Ok raw) e) (first (sites raw)) refl
  of_text (Err f) e = has_fault (of_read f) (read_fault bs f (verdict_is bs (Err f) e))

  answered : Answered bs
  answered = of_text (verdict bs) refl

  same_verdict : (v w : Verdict) → ComesTo bs v → ComesTo bs w → w ≡ v
  same_verdict (accepted a) (accepted b) h k = ap accepted (one_system bs b a k h)
  same_verdict (accepted a) (refused f) h k = absurd (not_both bs a f h k)
  same_verdict (refused f) (accepted a) h k = absurd (not_both bs a f k h)
  same_verdict (refused f) (refused g) h k = ap refused (one_fault bs g f k h)

pub one_verdict : OneVerdict
one_verdict bs = let a = answered bs in (a.0, record { is = a.1; only = λ w h. same_verdict bs a.0 w a.1 h })

-- ---- want of memory is no fault of a text

read_memory : (bs : List ℕ) (f : ReadFault) → reading.TextOffends bs f → of_read f ≡ fault.NoMemory → ⊥
read_memory bs (read.Long limit) h e = cc
read_memory bs (read.Byte at) h e = cc
read_memory bs (read.Unopened at) h e = cc
read_memory bs (read.Nest at) h e = cc
read_memory bs (read.Unclosed at) h e = cc
read_memory bs read.Empty h e = cc
read_memory bs (read.Form at) h e = cc
read_memory bs (read.Number at) h e = cc
read_memory bs (read.Length at) h e = cc
read_memory bs read.NoMemory h e = h

site_memory : (x : Site) → site.Offends x name.NoMemory → ⊥
site_memory (declares other x) h = let e = h.3 in cc
site_memory (binds other x) h = let e = h.2 in cc
site_memory (refers want found u) (inl h) = let e = h.1 in cc
site_memory (refers want found u) (inr h) = let e = h.3 in cc
site_memory (part_type at found u) h = let e = h.1 in cc
site_memory (picks found u) h = let e = h.1 in cc

name_memory : (raw : Raw Id) (f : NameFault) → naming.Offences raw f → of_name f ≡ fault.NoMemory → ⊥
name_memory raw (name.Twice at other) h e = cc
name_memory raw (name.Unknown at) h e = cc
name_memory raw (name.Kind at want found) h e = cc
name_memory raw name.NoMemory h e = site_memory h.0 h.2

type_memory : (bs : List ℕ) (t : Raw Link) (n : IsNamed bs t) (f : TypeFault) → Offence t f → of_type f ≡ fault.NoMemory → ⊥
type_memory bs t n (types_fault.Mismatch at want found) h e = cc
type_memory bs t n (types_fault.NotPlace at) h e = cc
type_memory bs t n (types_fault.Field at) h e = cc
type_memory bs t n (types_fault.Range at) h e = cc
type_memory bs t n (types_fault.Deep at depth) h e = cc
type_memory bs t n types_fault.NoMemory h e = no_memory t (length bs) (linked_ascends bs n.raw t n.spelled n.linked) h

memory_offends : (bs : List ℕ) {p : Standing} {g : Fault} → Offends bs p g → g ≡ fault.NoMemory → ⊥
memory_offends bs (reads f o) e = read_memory bs f o e
memory_offends bs (names raw f s o) e = name_memory raw f o e
memory_offends bs (types t f n o) e = type_memory bs t n f o e
memory_offends bs (bound a h k s o) e = cc
memory_offends bs (cycle a c s o) e = cc
memory_offends bs (size a w n s c o) e = cc
memory_offends bs (work a k s l o) e = cc

pub memory_is_none : MemoryIsNoFault
memory_is_none bs h = memory_offends bs h.offends refl
