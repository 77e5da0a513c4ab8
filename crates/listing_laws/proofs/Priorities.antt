-- The priorities of an accepted file are from 0 to 255, and so are those of its program.
use Rattle.std.proofs.Common.{◌≡◌, ℕ, suc, ◌≤◌, List, [], ◌∷◌, map, All, sym, subst}
use Rattle.std.proofs.lemmas.List.Elements.{All-nil, All-cons, All-head, All-tail}
use Rattle.tower_syntax.specs.RawTree.{Id, Link, RawItem, fields, init, period, signal, channel, output, monitor, Raw}
use Rattle.tower_syntax.specs.Arch.{Arch, Source}
use Rattle.tower_syntax.specs.Printable.{IsPrintable, IsPrintableItem}
use Rattle.tower_reader.proofs.SpelledPrints.{spelled_is_printable}
use Rattle.tower_syntax.specs.declared.named.Target.{Target}
use Rattle.arch_names.specs.declared.names.Thing.{Thing}
use Rattle.arch_names.specs.Names.{Find, find}
use Rattle.arch_names.specs.Sets.{declared_in}
use Rattle.arch_names.specs.Site.{Site}
use Rattle.arch_names.specs.Linked.{linked_item}
use Rattle.arch_types.specs.Outline.{each, source_of}
use Rattle.arch_checks.specs.Offences.{IsAccepted}
use Rattle.task_build.specs.CodeOf.{task_of, tasks_from, code_of}

abbrev AllOf : {X : Type 0} → (X → Type 0) → List X → Type 0
AllOf P [] = Unit {0}
AllOf P (x ∷ xs) = P x × AllOf P xs

abbrev IsLow : {U : Type 0} → RawItem U → Type 0
IsLow (init at i p) = p ≤ 255
IsLow (period at i ms p d) = p ≤ 255
IsLow (signal at i t p d) = p ≤ 255
IsLow _ = Unit {0}

item_low : (version : ℕ) (i : RawItem Id) → IsPrintableItem version i → IsLow i
item_low v (fields at i fs) h = tt
item_low v (init at i p) h = h.1.1
item_low v (period at i ms p d) h = h.2.1
item_low v (signal at i t p d) h = h.2.1
item_low v (channel at i t) h = tt
item_low v (output at i u) h = tt
item_low v (monitor at i ps) h = tt

items_low : (version : ℕ) (items : List (RawItem Id)) → All (IsPrintableItem version) items → AllOf IsLow items
items_low v [] h = tt
items_low v (i ∷ items) h = (item_low v i (All-head (IsPrintableItem v) i items h), items_low v items (All-tail (IsPrintableItem v) i items h))

module _ (m : Site → Target) (file : Find Thing) where
  linked_low : (items : List (RawItem Id)) → AllOf IsLow items → AllOf IsLow (map (linked_item m file) items)
  linked_low [] h = tt
  linked_low (fields at x fs ∷ items) h = (tt, linked_low items h.1)
  linked_low (init at x p ∷ items) h = (h.0, linked_low items h.1)
  linked_low (period at x ms p d ∷ items) h = (h.0, linked_low items h.1)
  linked_low (signal at x t p d ∷ items) h = (h.0, linked_low items h.1)
  linked_low (channel at x t ∷ items) h = (tt, linked_low items h.1)
  linked_low (output at x u ∷ items) h = (tt, linked_low items h.1)
  linked_low (monitor at x ps ∷ items) h = (tt, linked_low items h.1)

sources_low : (items : List (RawItem Link)) → AllOf IsLow items → AllOf (λ s. s.priority ≤ 255) (each source_of items)
sources_low [] h = tt
sources_low (fields at x fs ∷ items) h = sources_low items h.1
sources_low (init at x p ∷ items) h = (h.0, sources_low items h.1)
sources_low (period at x ms p d ∷ items) h = (h.0, sources_low items h.1)
sources_low (signal at x t p d ∷ items) h = (h.0, sources_low items h.1)
sources_low (channel at x t ∷ items) h = sources_low items h.1
sources_low (output at x u ∷ items) h = sources_low items h.1
sources_low (monitor at x ps ∷ items) h = sources_low items h.1

tasks_low : (arch : Arch) (s : ℕ) (xs : List Source) → AllOf (λ s. s.priority ≤ 255) xs → All (λ t. t.priority ≤ 255) (tasks_from arch s xs)
tasks_low arch s [] h = All-nil (λ t. t.priority ≤ 255)
tasks_low arch s (x ∷ xs) h = All-cons (λ t. t.priority ≤ 255) (task_of arch s x) (tasks_from arch (suc s) xs) h.0 (tasks_low arch (suc s) xs h.1)

-- the priorities of the program of an accepted file
pub priorities_low : (bs : List ℕ) (arch : Arch) → IsAccepted bs arch → All (λ t. t.priority ≤ 255) (code_of arch).tasks
priorities_low bs arch h =
    let s = h.system in
    let raw = s.is.raw in
    let printable = spelled_is_printable bs raw s.is.spelled in
    let linked : AllOf IsLow s.named.items =
    subst (λ (t : Raw Link). AllOf IsLow t.items) (sym s.is.linked.2) (linked_low s.is.linked.0 (find (declared_in raw.items)) raw.items (items_low raw.version raw.items printable.items)) in
    let low : AllOf (λ s. s.priority ≤ 255) arch.sources = subst (λ (a : Arch). AllOf (λ s. s.priority ≤ 255) a.sources) (sym s.checked.outlined) (sources_low s.named.items linked) in
    tasks_low arch 0 arch.sources low
