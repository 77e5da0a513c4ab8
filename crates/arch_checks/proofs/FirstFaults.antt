-- The answer of reading, names and types to a text, computed: its fault, or its system.
use Rattle.std.proofs.Common.{◌≡◌, ◌<◌, ◌≤◌, ℕ, zero, suc, ◌+◌, List, [], length, replicate, Bool, true, false, cond, nat_lt, Option, Some, None, Result, Ok, Err, refl, ap, ◌∙◌, subst, arith}
use Rattle.std.proofs.lemmas.Bool.{lt-ltb, le-ltb}
use Rattle.std.proofs.lemmas.List.{length-replicate}
use Rattle.tower_sexp.specs.Marks.{marks, marks_of, tokens, tokens_of}
use Rattle.tower_sexp.specs.FirstFault.{first_fault}
use Rattle.tower_sexp.specs.Nesting.{trees_spelled}
use Rattle.tower_syntax.specs.RawTree.{Id, Link, Raw}
use Rattle.tower_syntax.specs.Arch.{Arch}
use Rattle.tower_reader.specs.declared.fault.ReadFault.{ReadFault}
use Rattle.tower_reader.specs.declared.fault.ReadFault.TheVariants as read
use Rattle.tower_reader.specs.Spelled.{Spells, byte_limit}
use Rattle.tower_reader.specs.Verdict.{by_tokens, verdict}
use Rattle.tower_reader.proofs.Verdicts.{Answers, verdict_answers, one_tree, not_both}
use Rattle.arch_names.specs.declared.fault.NameFault.{NameFault}
use Rattle.arch_names.specs.Sites.{sites}
use Rattle.arch_names.specs.Linked.{linked}
use Rattle.arch_names.specs.Resolved as named
use Rattle.arch_names.specs.Resolved.{IsLinked}
use Rattle.arch_names.specs.Walk.{first, meant}
use Rattle.arch_names.proofs.Whole.{clean_is, linked_is, least_is}
use Rattle.arch_types.specs.declared.fault.TypeFault.{TypeFault}
use Rattle.arch_types.specs.File as typed
use Rattle.arch_types.specs.FileWalk.{walked_file, IsAnswer}
use Rattle.arch_types.proofs.FileWalk.{file_walk_is_right}
use Rattle.arch_order.proofs.InOrder.{names_ascend}
use Rattle.arch_order.proofs.LinkedOrder.{linked_ascends}
use Rattle.arch_order.proofs.Handlers.{numbered}
use Rattle.arch_checks.specs.declared.fault.Fault.{Fault}
use Rattle.arch_checks.specs.declared.fault.Fault.TheVariants as fault
use Rattle.arch_checks.specs.Faults.{of_read, of_name, of_type}
use Rattle.arch_checks.specs.Offences.{Standing, types_kind, Offends, reads, names, types, bound, cycle, size, work, IsNamed, IsFault}
use Rattle.arch_checks.specs.WorkedFaults.{HasSystem}
use Rattle.arch_checks.proofs.Trees.{named_once}
use Rattle.arch_checks.proofs.Order.{Typed, read_fault, name_fault, type_fault}
use Rattle.arch_checks.proofs.Told.{is_named, is_typed}

abbrev by_types : Result Arch TypeFault → Result Arch Fault
by_types (Ok arch) = Ok arch
by_types (Err f) = Err (of_type f)

abbrev by_names : Raw Id → Option NameFault → Result Arch Fault
by_names raw None = by_types (walked_file (linked meant raw))
by_names raw (Some f) = Err (of_name f)

abbrev by_reading : Result (Raw Id) ReadFault → Result Arch Fault
by_reading (Ok raw) = by_names raw (first (sites raw))
by_reading (Err f) = Err (of_read f)

abbrev pub answer_to : List ℕ → Result Arch Fault
answer_to bs = by_reading (verdict bs)

-- it is right
abbrev pub Says : List ℕ → Result Arch Fault → Type 0
Says bs (Ok arch) = Typed bs arch
Says bs (Err f) = IsFault bs f

module _ (bs : List ℕ) where
  types_say : (raw : Raw Id) → Spells bs raw → first (sites raw) ≡ None → (r : Result Arch TypeFault) → IsAnswer (linked meant raw) r → Says bs (by_types r)
  types_say raw s e (Ok arch) h =
      let t : Raw Link = linked meant raw in
      is_typed bs raw t arch s (linked_is raw t e refl) (clean_is raw e) h.0 h.1
  types_say raw s e (Err f) h =
      let t : Raw Link = linked meant raw in
      let l : IsLinked raw t = linked_is raw t e refl in
      type_fault bs t f (is_named bs raw t s l) (clean_is raw e) (h (length bs) (linked_ascends bs raw t s l))

  names_say : (raw : Raw Id) → Spells bs raw → (o : Option NameFault) → first (sites raw) ≡ o → Says bs (by_names raw o)
  names_say raw s None e =
      let t : Raw Link = linked meant raw in
      types_say raw s e (walked_file t) (file_walk_is_right t (numbered bs raw t s (linked_is raw t e refl)))
  names_say raw s (Some f) e = name_fault bs raw f s (least_is raw f e (names_ascend bs raw s))

  reading_says : (v : Result (Raw Id) ReadFault) → Answers bs v → Says bs (by_reading v)
  reading_says (Ok raw) s = names_say raw s (first (sites raw)) refl
  reading_says (Err f) h = read_fault bs f h

pub answer_is_right : (bs : List ℕ) → Says bs (answer_to bs)
answer_is_right bs = reading_says bs (verdict bs) (verdict_answers bs)

pub faulty : (bs : List ℕ) (f : Fault) → answer_to bs ≡ Err f → IsFault bs f
faulty bs f e = subst (Says bs) e (answer_is_right bs)

-- a text with a system

abbrev pub passes : Result Arch Fault → Bool
passes (Ok arch) = true
passes (Err f) = false

module _ (bs : List ℕ) (arch : Arch) (t : Typed bs arch) where
  behind_types : {p : Standing} {f : Fault} → Offends bs p f → types_kind < p.kind
  behind_types (reads k o) = absurd (not_both bs t.system.is.raw k t.system.is.spelled o)
  behind_types (names q k s o) = absurd (t.names k (subst (λ x. named.Offences x k) (one_tree bs q t.system.is.raw s t.system.is.spelled) o))
  behind_types (types u k s o) = absurd (t.types k (subst (λ x. typed.Offence x k) (named_once bs u t.system.named s t.system.is) o))
  behind_types (bound a h e s o) = omega arith
  behind_types (cycle a c s o) = omega arith
  behind_types (size a w n s c o) = omega arith
  behind_types (work a n s l o) = omega arith

  has_system : HasSystem bs
  has_system = (arch, t.system, λ p f o. behind_types o)

system_by : (bs : List ℕ) (r : Result Arch Fault) → Says bs r → passes r ≡ true → HasSystem bs
system_by bs (Ok arch) h e = has_system bs arch h
system_by bs (Err f) h e = cc

pub system : (bs : List ℕ) → passes (answer_to bs) ≡ true → HasSystem bs
system bs e = system_by bs (answer_to bs) (answer_is_right bs) e

-- ---- texts of any length

pub long : (bs : List ℕ) → 1048576 < length bs → IsFault bs (fault.Long 1048576)
long bs l =
    let e : nat_lt byte_limit (length bs) ≡ true = lt-ltb byte_limit (length bs) l in
    faulty bs (fault.Long 1048576) (ap (λ b. by_reading (cond b (Err (read.Long byte_limit)) (by_tokens (first_fault (marks_of bs)) (trees_spelled (tokens_of bs))))) e)

no_marks : (n at : ℕ) → marks false at (replicate n 0x20) ≡ []
no_marks zero at = refl
no_marks (suc n) at = no_marks n (at + 1)

blanks_read : (bs : List ℕ) (b : Bool) → nat_lt byte_limit (length bs) ≡ b → b ≡ false → marks_of bs ≡ [] → answer_to bs ≡ Err fault.Empty
blanks_read bs b e f h =
    ap (λ b. by_reading (cond b (Err (read.Long byte_limit)) (by_tokens (first_fault (marks_of bs)) (trees_spelled (tokens_of bs))))) (e ∙ f)
    ∙ ap (λ ms. by_reading (by_tokens (first_fault ms) (trees_spelled (tokens ms)))) h

pub blank : (n : ℕ) → n ≤ 1048576 → IsFault (replicate n 0x20) fault.Empty
blank n l =
    let k : length (replicate n 0x20) ≤ byte_limit = omega (arith, l, length-replicate {A = ℕ} n 0x20) in
    faulty (replicate n 0x20) fault.Empty (blanks_read (replicate n 0x20) _ refl (le-ltb byte_limit (length (replicate n 0x20)) k) (no_marks n 0))

pub typed_text : (bs : List ℕ) (arch : Arch) → answer_to bs ≡ Ok arch → Typed bs arch
typed_text bs arch e = subst (Says bs) e (answer_is_right bs)

-- ---- the numbered tree of a text

abbrev named_by : Raw Id → Option NameFault → Option (Raw Link)
named_by raw None = Some (linked meant raw)
named_by raw (Some f) = None

abbrev named_in : Result (Raw Id) ReadFault → Option (Raw Link)
named_in (Ok raw) = named_by raw (first (sites raw))
named_in (Err f) = None

module _ (bs : List ℕ) (t : Raw Link) where
  named_tree : (raw : Raw Id) → Spells bs raw → (o : Option NameFault) → first (sites raw) ≡ o → named_by raw o ≡ Some t → IsNamed bs t
  named_tree raw s None e h = let l : t ≡ linked meant raw = cc in is_named bs raw t s (linked_is raw t e l)
  named_tree raw s (Some f) e h = cc

  named_of : (v : Result (Raw Id) ReadFault) → Answers bs v → named_in v ≡ Some t → IsNamed bs t
  named_of (Ok raw) s h = named_tree raw s (first (sites raw)) refl h
  named_of (Err f) a h = cc

  pub named_text : named_in (verdict bs) ≡ Some t → IsNamed bs t
  named_text h = named_of (verdict bs) (verdict_answers bs) h
