-- What an accepted system keeps, and that a text has one verdict.
use Rattle.std.proofs.Common.{◌≡◌, inl, inr, ◌<◌, ◌≤◌, ℕ, List, length, Option, Some, None, refl, sym, ap, subst, arith}
use Rattle.std.proofs.lemmas.Bool.{cases_lt}
use Rattle.tower_types.specs.Records.{AreOrdered}
use Rattle.tower_syntax.specs.Arch.{Arch}
use Rattle.tower_syntax.specs.WellNumbered.{IsWellNumbered}
use Rattle.tower_syntax.specs.Weights.{cost}
use Rattle.arch_types.specs.Outline.{outline}
use Rattle.arch_types.specs.File.{Offence}
use Rattle.arch_types.specs.Offence.{IsClean}
use Rattle.arch_types.proofs.Sound.{well_numbered, typed, proper_scalars}
use Rattle.arch_types.proofs.SoundShallow.{shallow}
use Rattle.channel_graph.specs.declared.circuit.CycleFound.{CycleFound}
use Rattle.channel_graph.specs.Circuit.{shown}
use Rattle.channel_graph.proofs.Acyclic.{shown_none}
use Rattle.arch_checks.specs.declared.fault.What.{What}
use Rattle.arch_checks.specs.declared.fault.Fault.{Fault}
use Rattle.arch_checks.specs.Limits.{limit, work_limit}
use Rattle.arch_checks.specs.Sizes.{Counts}
use Rattle.arch_checks.specs.Offences.{Standing, Precedes, types, bound, cycle, size, work, IsFault, IsAccepted}
use Rattle.arch_checks.specs.Laws.{AcceptedFilesAreSafe, TypesAreCounted, WrittenTypesCount}
use Rattle.arch_checks.specs.declared.widths.Measure.TheVariants as measure
use Rattle.arch_checks.proofs.Ranged.{keeps_numbers}
use Rattle.arch_checks.proofs.TypesWritten.{same_greatest}
use Rattle.arch_checks.proofs.Trees.{named_numbered, system_once}

types_clean : (bs : List ℕ) (arch : Arch) (h : IsAccepted bs arch) → IsClean (Offence h.system.named)
types_clean bs arch h f o = h.clean _ _ (types h.system.named f h.system.is o)

no_cycle : (bs : List ℕ) (arch : Arch) → IsAccepted bs arch → shown arch ≡ None
no_cycle bs arch h = by (shown arch) refl
  where
    by : (o : Option CycleFound) → shown arch ≡ o → o ≡ None
    by None e = refl
    by (Some c) e = absurd (h.clean _ _ (cycle arch c h.system e))

within : (bs : List ℕ) (arch : Arch) → IsAccepted bs arch → (what : What) (n : ℕ) → Counts arch what n → n ≤ limit what
within bs arch h what n counts = elim (cases_lt (limit what) n) [ inl l ↦ absurd (h.clean _ _ (size arch what n h.system counts l)) | inr l ↦ l ]

cheap : (bs : List ℕ) (arch : Arch) → IsAccepted bs arch → (s : ℕ) → s < length arch.sources → cost arch s ≤ work_limit
cheap bs arch h s there = elim (cases_lt work_limit (cost arch s)) [ inl l ↦ absurd (h.clean _ _ (work arch s h.system there l)) | inr l ↦ l ]

pub safe : AcceptedFilesAreSafe
safe bs arch h =
    let s = h.system in
    let n = named_numbered bs s.named s.is in
    let w : IsWellNumbered arch = well_numbered s.named arch n s.checked in
    record {
      numbered = w;
      typed = typed s.named arch n s.checked;
      scalars = proper_scalars s.named arch n s.checked;
      shallow = shallow s.named arch s.checked (types_clean bs arch h);
      numbers = keeps_numbers bs arch h;
      bounded = λ m e o. h.clean _ _ (bound arch m e s o);
      acyclic = (shown_none arch (shown arch) w.listeners refl).0 (no_cycle bs arch h);
      within = within bs arch h;
      cheap = cheap bs arch h;
    }

-- a text is accepted as at most one system
pub one_system : (bs : List ℕ) (a b : Arch) → IsAccepted bs a → IsAccepted bs b → a ≡ b
one_system bs a b h k = system_once bs a b h.system k.system

never_both : (p q : Standing) → Precedes p q → Precedes q p → ⊥
never_both p q h k = grind (arith, h, k)

-- and has at most one fault
pub one_fault : (bs : List ℕ) (f g : Fault) → IsFault bs f → IsFault bs g → f ≡ g
one_fault bs f g h k = elim (h.first k.at g k.offends) [
  | inl e ↦ sym e
  | inr l ↦ elim (k.first h.at f h.offends) [ inl e ↦ e | inr m ↦ absurd (never_both h.at k.at l m) ]
]

-- and not both
pub not_both : (bs : List ℕ) (arch : Arch) (f : Fault) → IsAccepted bs arch → IsFault bs f → ⊥
not_both bs arch f h k = h.clean k.at f k.offends

pub written : WrittenTypesCount
written raw arch n h =
    let w : IsWellNumbered arch = well_numbered raw arch n h in
    let ordered : AreOrdered (outline raw).records = subst AreOrdered (ap (λ a. a.records) h.outlined) w.records.0 in
    subst (TypesAreCounted raw) (sym h.outlined) (record {
      depth = same_greatest measure.Depth raw arch.handlers h.handlers n ordered;
      words = same_greatest measure.Words raw arch.handlers h.handlers n ordered;
    })
