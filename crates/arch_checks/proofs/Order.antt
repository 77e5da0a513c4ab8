-- The first offence of a stage, where the stages before it are clean, is the fault of the text.
use Rattle.std.proofs.Common.{◌≡◌, ◌⊎◌, inl, inr, ◌<◌, ℕ, List, length, None, Some, refl, sym, ap, ◌∙◌, subst, arith}
use Rattle.std.proofs.lemmas.Bool.{cases_order}
use Rattle.tower_syntax.specs.RawTree.{Id, Link, Raw}
use Rattle.tower_syntax.specs.Arch.{Arch}
use Rattle.tower_syntax.specs.Weights.{cost}
use Rattle.tower_reader.specs.declared.fault.ReadFault.{ReadFault}
use Rattle.tower_reader.specs.declared.fault.ReadFault.TheVariants as fault
use Rattle.tower_reader.specs.Spelled.{Spells}
use Rattle.tower_reader.specs.Faults as reading
use Rattle.tower_reader.proofs.Verdicts.{one_tree, not_both}
use Rattle.arch_names.specs.declared.fault.NameFault.{NameFault}
use Rattle.arch_names.specs.Resolved as named
use Rattle.arch_types.specs.declared.fault.TypeFault.{TypeFault}
use Rattle.arch_types.specs.File as typed
use Rattle.arch_types.specs.Offence as typing
use Rattle.channel_graph.specs.declared.circuit.CycleFound.{CycleFound}
use Rattle.channel_graph.specs.Circuit.{shown}
use Rattle.channel_graph.specs.Over.{IsOver, NoneOver, StandsBefore}
use Rattle.arch_checks.specs.declared.fault.What.{What}
use Rattle.arch_checks.specs.declared.fault.Fault.{Fault}
use Rattle.arch_checks.specs.Faults.{of_read, of_name, of_type}
use Rattle.arch_checks.specs.Limits.{limit, limits, work_limit, order}
use Rattle.arch_checks.specs.Sizes.{Counts}
use Rattle.arch_checks.specs.Offences.{IsNamed, IsSystem, bound_fault, cycle_fault, size_fault, work_fault, Standing, standing, Precedes, Offends, reads, names, types, bound, cycle, size, work, IsFault, IsAccepted}
use Rattle.arch_checks.specs.Firsts.{IsBoundFault, IsCycleFault, AreWithin, IsSizeFault, AreCheap, IsWorkFault}
use Rattle.arch_checks.proofs.Trees.{named_once, system_once}
use Rattle.arch_checks.proofs.Limited.{what_once, count_once, order_below}

-- ---- each offence, of the trees that the text has

name_here : (bs : List ℕ) (r q : Raw Id) (f : NameFault) → Spells bs r → Spells bs q → named.Offences q f → named.Offences r f
name_here bs r q f s t o = subst (λ x. named.Offences x f) (one_tree bs q r t s) o

type_here : (bs : List ℕ) (t u : Raw Link) (f : TypeFault) → IsNamed bs t → IsNamed bs u → typed.Offence u f → typed.Offence t f
type_here bs t u f h k o = subst (λ x. typed.Offence x f) (named_once bs u t k h) o

-- the stages that a text has passed, up to its system
pub record Typed (bs : List ℕ) (arch : Arch) : Type 0 where
  pub system : IsSystem bs arch
  pub names : named.IsClean (named.Offences system.is.raw)
  pub types : typing.IsClean (typed.Offence system.named)

-- ---- reading

rank_below : (bs : List ℕ) (f : ReadFault) → reading.TextOffends bs f → reading.rank f < 7
rank_below bs (fault.Long limit) h = omega arith
rank_below bs (fault.Byte at) h = omega arith
rank_below bs (fault.Unopened at) h = omega arith
rank_below bs (fault.Nest at) h = omega arith
rank_below bs (fault.Unclosed at) h = omega arith
rank_below bs fault.Empty h = omega arith
rank_below bs (fault.Form at) h = omega arith
rank_below bs (fault.Number at) h = omega arith
rank_below bs (fault.Length at) h = omega arith
rank_below bs fault.NoMemory h = absurd h

read_before : (f g : ReadFault) → (g ≡ f) ⊎ reading.Precedes f g → (of_read g ≡ of_read f) ⊎ Precedes (standing (reading.rank f) (reading.offset f) 0) (standing (reading.rank g) (reading.offset g) 0)
read_before f g (inl e) = inl (ap of_read e)
read_before f g (inr (inl l)) = inr (inl l)
read_before f g (inr (inr l)) = inr (inr (l.0, inl l.1))

read_first : (bs : List ℕ) (f : ReadFault) → reading.IsFault bs f → {p : Standing} {g : Fault} → Offends bs p g → (g ≡ of_read f) ⊎ Precedes (standing (reading.rank f) (reading.offset f) 0) p
read_first bs f h (reads k o) = read_before f k (h.precedes k o)
read_first bs f h (names raw k s o) = inr (inl (rank_below bs f h.offends))
read_first bs f h (types t k s o) = let l = rank_below bs f h.offends in inr (inl (omega (arith, l)))
read_first bs f h (bound a m e s o) = let l = rank_below bs f h.offends in inr (inl (omega (arith, l)))
read_first bs f h (cycle a c s o) = let l = rank_below bs f h.offends in inr (inl (omega (arith, l)))
read_first bs f h (size a w n s c o) = let l = rank_below bs f h.offends in inr (inl (omega (arith, l)))
read_first bs f h (work a n s l o) = let l = rank_below bs f h.offends in inr (inl (omega (arith, l)))

pub read_fault : (bs : List ℕ) (f : ReadFault) → reading.IsFault bs f → IsFault bs (of_read f)
read_fault bs f h = record { at = standing (reading.rank f) (reading.offset f) 0; offends = reads f h.offends; first = λ p g o. read_first bs f h o }

-- ---- names

name_before : (f g : NameFault) → (g ≡ f) ⊎ (named.offset f < named.offset g) → (of_name g ≡ of_name f) ⊎ Precedes (standing 7 (named.offset f) 0) (standing 7 (named.offset g) 0)
name_before f g (inl e) = inl (ap of_name e)
name_before f g (inr l) = inr (inr (refl, inl l))

name_first : (bs : List ℕ) (raw : Raw Id) (f : NameFault) → Spells bs raw → named.IsFirst (named.Offences raw) f → {p : Standing} {g : Fault} → Offends bs p g → (g ≡ of_name f) ⊎ Precedes (standing 7 (named.offset f) 0) p
name_first bs raw f s h (reads k o) = absurd (not_both bs raw k s o)
name_first bs raw f s h (names q k t o) = name_before f k (h.least k (name_here bs raw q k s t o))
name_first bs raw f s h (types t k u o) = inr (inl (omega arith))
name_first bs raw f s h (bound a m e u o) = inr (inl (omega arith))
name_first bs raw f s h (cycle a c u o) = inr (inl (omega arith))
name_first bs raw f s h (size a w n u c o) = inr (inl (omega arith))
name_first bs raw f s h (work a n u l o) = inr (inl (omega arith))

pub name_fault : (bs : List ℕ) (raw : Raw Id) (f : NameFault) → Spells bs raw → named.IsFirst (named.Offences raw) f → IsFault bs (of_name f)
name_fault bs raw f s h = record { at = standing 7 (named.offset f) 0; offends = names raw f s h.is_one; first = λ p g o. name_first bs raw f s h o }

-- ---- types

type_before : (f g : TypeFault) → (g ≡ f) ⊎ (typing.offset f < typing.offset g) → (of_type g ≡ of_type f) ⊎ Precedes (standing 8 (typing.offset f) 0) (standing 8 (typing.offset g) 0)
type_before f g (inl e) = inl (ap of_type e)
type_before f g (inr l) = inr (inr (refl, inl l))

type_first : (bs : List ℕ) (t : Raw Link) (f : TypeFault) (n : IsNamed bs t) → named.IsClean (named.Offences n.raw) → typing.IsFirst (typed.Offence t) f → {p : Standing} {g : Fault} → Offends bs p g → (g ≡ of_type f) ⊎ Precedes (standing 8 (typing.offset f) 0) p
type_first bs t f n c h (reads k o) = absurd (not_both bs n.raw k n.spelled o)
type_first bs t f n c h (names q k s o) = absurd (c k (name_here bs n.raw q k n.spelled s o))
type_first bs t f n c h (types u k s o) = type_before f k (h.least k (type_here bs t u k n s o))
type_first bs t f n c h (bound a m e u o) = inr (inl (omega arith))
type_first bs t f n c h (cycle a d u o) = inr (inl (omega arith))
type_first bs t f n c h (size a w m u d o) = inr (inl (omega arith))
type_first bs t f n c h (work a m u l o) = inr (inl (omega arith))

pub type_fault : (bs : List ℕ) (t : Raw Link) (f : TypeFault) (n : IsNamed bs t) → named.IsClean (named.Offences n.raw) → typing.IsFirst (typed.Offence t) f → IsFault bs (of_type f)
type_fault bs t f n c h = record { at = standing 8 (typing.offset f) 0; offends = types t f n h.is_one; first = λ p g o. type_first bs t f n c h o }

-- ---- what stands before the system

typed_reads : (bs : List ℕ) (arch : Arch) → Typed bs arch → (f : ReadFault) → reading.TextOffends bs f → ⊥
typed_reads bs arch t f o = not_both bs t.system.is.raw f t.system.is.spelled o

typed_names : (bs : List ℕ) (arch : Arch) → Typed bs arch → (q : Raw Id) (f : NameFault) → Spells bs q → named.Offences q f → ⊥
typed_names bs arch t q f s o = t.names f (name_here bs t.system.is.raw q f t.system.is.spelled s o)

typed_types : (bs : List ℕ) (arch : Arch) → Typed bs arch → (u : Raw Link) (f : TypeFault) → IsNamed bs u → typed.Offence u f → ⊥
typed_types bs arch t u f s o = t.types f (type_here bs t.system.named u f t.system.is s o)

-- ---- bounds

which : {A : Type 0} (m n : ℕ) → (m < n → A) → (m ≡ n → A) → (n < m → A) → A
which m n below equal above = elim (cases_order m n) [ inl e ↦ equal e | inr h ↦ elim h [ inl l ↦ below l | inr l ↦ above l ] ]

-- an offence, unless it stands before
pair_before : {A : Type 0} (k m n x y : ℕ) → (StandsBefore x y m n → A) → (m ≡ x → n ≡ y → A) → (Precedes (standing k m n) (standing k x y) → A) → A
pair_before k m n x y before same after =
    which m x
    (λ l. after (inr (refl, inl l)))
    (λ e. which n y (λ l. after (inr (refl, inr (e, l)))) (λ f. same e f) (λ l. before (inr (sym e, l))))
    (λ l. before (inl l))

bound_here : (bs : List ℕ) (a b : Arch) (h e m n : ℕ) → IsSystem bs a → IsSystem bs b → ((x y : ℕ) → StandsBefore x y h e → IsOver a x y → ⊥) → IsOver b m n
    → (bound_fault b m n ≡ bound_fault a h e) ⊎ Precedes (standing 9 h e) (standing 9 m n)
bound_here bs a b h e m n s t first o =
    let i : b ≡ a = system_once bs b a t s in
    pair_before 9 h e m n
    (λ l. absurd (first m n l (subst (λ x. IsOver x m n) i o)))
    (λ p q. inl (λ j. bound_fault (i j) (sym p j) (sym q j)))
    (λ l. inr l)

bound_first : (bs : List ℕ) (arch : Arch) → Typed bs arch → (h e : ℕ) → ((x y : ℕ) → StandsBefore x y h e → IsOver arch x y → ⊥) → {p : Standing} {g : Fault} → Offends bs p g → (g ≡ bound_fault arch h e) ⊎ Precedes (standing 9 h e) p
bound_first bs arch t h e first (reads k o) = absurd (typed_reads bs arch t k o)
bound_first bs arch t h e first (names q k s o) = absurd (typed_names bs arch t q k s o)
bound_first bs arch t h e first (types u k s o) = absurd (typed_types bs arch t u k s o)
bound_first bs arch t h e first (bound a m n s o) = bound_here bs arch a h e m n t.system s first o
bound_first bs arch t h e first (cycle a d u o) = inr (inl (omega arith))
bound_first bs arch t h e first (size a w m u d o) = inr (inl (omega arith))
bound_first bs arch t h e first (work a m u l o) = inr (inl (omega arith))

pub bound_is_fault : (bs : List ℕ) (arch : Arch) (f : Fault) → Typed bs arch → IsBoundFault arch f → IsFault bs f
bound_is_fault bs arch f t b =
    let o = b.over in
    subst (IsFault bs) (sym b.told) (record { at = standing 9 o.handler o.emitter; offends = bound arch o.handler o.emitter t.system b.first.over; first = λ p g k. bound_first bs arch t o.handler o.emitter b.first.first k })

-- ---- cycles

-- no emitter is over its bound either
pub record Bounded (bs : List ℕ) (arch : Arch) : Type 0 where
  pub typed : Typed bs arch
  pub bounded : NoneOver arch

bounded_none : (bs : List ℕ) (arch : Arch) → Bounded bs arch → (a : Arch) (m n : ℕ) → IsSystem bs a → IsOver a m n → ⊥
bounded_none bs arch t a m n s o = t.bounded m n (subst (λ x. IsOver x m n) (system_once bs a arch s t.typed.system) o)

found_once : (a b : Arch) (c d : CycleFound) → b ≡ a → shown a ≡ Some c → shown b ≡ Some d → cycle_fault b d ≡ cycle_fault a c
found_once a b c d i h k =
    let e : Some d ≡ Some c = sym k ∙ ap shown i ∙ h in
    let same : d ≡ c = cc in
    λ j. cycle_fault (i j) (same j)

cycle_first : (bs : List ℕ) (arch : Arch) (c : CycleFound) → Bounded bs arch → shown arch ≡ Some c → {p : Standing} {g : Fault} → Offends bs p g → (g ≡ cycle_fault arch c) ⊎ Precedes (standing 10 0 0) p
cycle_first bs arch c t e (reads k o) = absurd (typed_reads bs arch t.typed k o)
cycle_first bs arch c t e (names q k s o) = absurd (typed_names bs arch t.typed q k s o)
cycle_first bs arch c t e (types u k s o) = absurd (typed_types bs arch t.typed u k s o)
cycle_first bs arch c t e (bound a m n s o) = absurd (bounded_none bs arch t a m n s o)
cycle_first bs arch c t e (cycle a d u o) = inl (found_once arch a c d (system_once bs a arch u t.typed.system) e o)
cycle_first bs arch c t e (size a w m u d o) = inr (inl (omega arith))
cycle_first bs arch c t e (work a m u l o) = inr (inl (omega arith))

pub cycle_is_fault : (bs : List ℕ) (arch : Arch) (f : Fault) → Bounded bs arch → IsCycleFault arch f → IsFault bs f
cycle_is_fault bs arch f t c =
    subst (IsFault bs) (sym c.told) (record { at = standing 10 0 0; offends = cycle arch c.found t.typed.system c.shown; first = λ p g k. cycle_first bs arch c.found t c.shown k })

-- ---- sizes

-- no cycle is shown either
pub record Acyclic (bs : List ℕ) (arch : Arch) : Type 0 where
  pub bounded : Bounded bs arch
  pub acyclic : shown arch ≡ None

acyclic_none : (bs : List ℕ) (arch : Arch) → Acyclic bs arch → (a : Arch) (c : CycleFound) → IsSystem bs a → shown a ≡ Some c → ⊥
acyclic_none bs arch t a c s o =
    let e : None ≡ Some c = sym t.acyclic ∙ ap shown (system_once bs arch a t.bounded.typed.system s) ∙ o in
    cc

size_here : (bs : List ℕ) (a b : Arch) (v w : What) (m n : ℕ) → IsSystem bs a → IsSystem bs b → Counts a v m → AreWithin a (order v) → Counts b w n → limit w < n
    → (size_fault w n ≡ size_fault v m) ⊎ Precedes (standing 11 (order v) 0) (standing 11 (order w) 0)
size_here bs a b v w m n s t counts before d more =
    let e : Counts a w n = subst (λ x. Counts x w n) (system_once bs b a t s) d in
    which (order v) (order w)
    (λ l. inr (inr (refl, inl l)))
    (λ i.
    let same : w ≡ v = what_once w v (sym i) in
    let count : n ≡ m = count_once a v n m (subst (λ x. Counts a x n) same e) counts in
    inl (λ j. size_fault (same j) (count j)))
    (λ l. let k = before w n l e in absurd (omega (arith, k, more)))

size_first : (bs : List ℕ) (arch : Arch) (v : What) (m : ℕ) → Acyclic bs arch → Counts arch v m → AreWithin arch (order v) → {p : Standing} {g : Fault} → Offends bs p g → (g ≡ size_fault v m) ⊎ Precedes (standing 11 (order v) 0) p
size_first bs arch v m t c before (reads k o) = absurd (typed_reads bs arch t.bounded.typed k o)
size_first bs arch v m t c before (names q k s o) = absurd (typed_names bs arch t.bounded.typed q k s o)
size_first bs arch v m t c before (types u k s o) = absurd (typed_types bs arch t.bounded.typed u k s o)
size_first bs arch v m t c before (bound a x n s o) = absurd (bounded_none bs arch t.bounded a x n s o)
size_first bs arch v m t c before (cycle a d u o) = absurd (acyclic_none bs arch t a d u o)
size_first bs arch v m t c before (size a w n u d o) = size_here bs arch a v w m n t.bounded.typed.system u c before d o
size_first bs arch v m t c before (work a n u l o) = inr (inl (omega arith))

pub size_is_fault : (bs : List ℕ) (arch : Arch) (f : Fault) → Acyclic bs arch → IsSizeFault arch f → IsFault bs f
size_is_fault bs arch f t s =
    subst (IsFault bs) (sym s.told) (record { at = standing 11 (order s.what) 0; offends = size arch s.what s.count t.bounded.typed.system s.counts s.more; first = λ p g k. size_first bs arch s.what s.count t s.counts s.before k })

-- ---- work

-- nothing is too large either
pub record Sized (bs : List ℕ) (arch : Arch) : Type 0 where
  pub acyclic : Acyclic bs arch
  pub within : AreWithin arch limits

sized_none : (bs : List ℕ) (arch : Arch) → Sized bs arch → (a : Arch) (w : What) (n : ℕ) → IsSystem bs a → Counts a w n → limit w < n → ⊥
sized_none bs arch t a w n s c more =
    let k = t.within w n (order_below w) (subst (λ x. Counts x w n) (system_once bs a arch s t.acyclic.bounded.typed.system) c) in
    omega (arith, k, more)

work_here : (bs : List ℕ) (a b : Arch) (s n : ℕ) → IsSystem bs a → IsSystem bs b → AreCheap a s → work_limit < cost b n → (work_fault b n ≡ work_fault a s) ⊎ Precedes (standing 12 s 0) (standing 12 n 0)
work_here bs a b s n u v before more =
    let i : b ≡ a = system_once bs b a v u in
    which s n
    (λ l. inr (inr (refl, inl l)))
    (λ e. inl (λ j. work_fault (i j) (sym e j)))
    (λ l. let k = before n l in let m = subst (λ x. work_limit < cost x n) i more in absurd (omega (arith, k, m)))

work_first : (bs : List ℕ) (arch : Arch) (s : ℕ) → Sized bs arch → AreCheap arch s → {p : Standing} {g : Fault} → Offends bs p g → (g ≡ work_fault arch s) ⊎ Precedes (standing 12 s 0) p
work_first bs arch s t before (reads k o) = absurd (typed_reads bs arch t.acyclic.bounded.typed k o)
work_first bs arch s t before (names q k u o) = absurd (typed_names bs arch t.acyclic.bounded.typed q k u o)
work_first bs arch s t before (types u k v o) = absurd (typed_types bs arch t.acyclic.bounded.typed u k v o)
work_first bs arch s t before (bound a x n u o) = absurd (bounded_none bs arch t.acyclic.bounded a x n u o)
work_first bs arch s t before (cycle a d u o) = absurd (acyclic_none bs arch t.acyclic a d u o)
work_first bs arch s t before (size a w n u d o) = absurd (sized_none bs arch t a w n u d o)
work_first bs arch s t before (work a n u l o) = work_here bs arch a s n t.acyclic.bounded.typed.system u before o

pub work_is_fault : (bs : List ℕ) (arch : Arch) (f : Fault) → Sized bs arch → IsWorkFault arch f → IsFault bs f
work_is_fault bs arch f t w =
    subst (IsFault bs) (sym w.told) (record { at = standing 12 w.source 0; offends = work arch w.source t.acyclic.bounded.typed.system w.exists w.more; first = λ p g k. work_first bs arch w.source t w.before k })

-- ---- what is accepted

nothing_offends : (bs : List ℕ) (arch : Arch) → Sized bs arch → AreCheap arch (length arch.sources) → {p : Standing} {g : Fault} → Offends bs p g → ⊥
nothing_offends bs arch t cheap (reads k o) = typed_reads bs arch t.acyclic.bounded.typed k o
nothing_offends bs arch t cheap (names q k s o) = typed_names bs arch t.acyclic.bounded.typed q k s o
nothing_offends bs arch t cheap (types u k s o) = typed_types bs arch t.acyclic.bounded.typed u k s o
nothing_offends bs arch t cheap (bound a x n s o) = bounded_none bs arch t.acyclic.bounded a x n s o
nothing_offends bs arch t cheap (cycle a d u o) = acyclic_none bs arch t.acyclic a d u o
nothing_offends bs arch t cheap (size a w n u d o) = sized_none bs arch t a w n u d o
nothing_offends bs arch t cheap (work a n u l o) =
    let i : a ≡ arch = system_once bs a arch u t.acyclic.bounded.typed.system in
    let k = cheap n (subst (λ x. n < length x.sources) i l) in
    let m = subst (λ x. work_limit < cost x n) i o in
    omega (arith, k, m)

pub accepted : (bs : List ℕ) (arch : Arch) → Sized bs arch → AreCheap arch (length arch.sources) → IsAccepted bs arch
accepted bs arch t cheap = record { system = t.acyclic.bounded.typed.system; clean = λ p f o. nothing_offends bs arch t cheap o }
