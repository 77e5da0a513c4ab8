-- What the check computes of a generated file, whatever is drawn. A fact about each number below a bound is an equation of
-- two lists.
use Rattle.std.specs.Prelude.{◌≡◌, ℕ, ◌+◌, nat_lt, nat_le, List, [], ◌∷◌, ◌++◌, map, length, true, not, ◌&&◌, ◌||◌, if◌then◌else◌, Bool, codes, pos, is_none}
use Rattle.std.specs.List.{list_all}
use Rattle.tower_types.specs.declared.scalar.Scalar.TheVariants.{U32, I64, Ix}
use Rattle.tower_types.specs.declared.scalar.BinOp.TheVariants.{Add, Mul}
use Rattle.tower_types.specs.Ty.{scalar}
use Rattle.tower_syntax.specs.declared.named.Target.{Target}
use Rattle.tower_syntax.specs.declared.named.Target.TheVariants as target
use Rattle.tower_syntax.specs.declared.arch.On.TheVariants as on
use Rattle.tower_syntax.specs.RawTree.{Link, word, RawPlace, root, index, RawExpr, read, lit, bin, cast, RawStmts, set, loop, emit, no_stmts, stmt, emitter, callback}
use Rattle.tower_syntax.specs.Arch.{Emitter, Handler}
use Rattle.tower_syntax.specs.Graph.{handler}
use Rattle.tower_syntax.specs.Weights.{most, cost, memory, code}
use Rattle.arch_names.specs.Names.{Names, find}
use Rattle.arch_names.specs.Sets.{declared_in}
use Rattle.arch_names.specs.Linked.{linked}
use Rattle.arch_types.specs.Outline.{each, outline, with_handlers, Written, handlers_of, on_of, emitter_of, callback_of}
use Rattle.arch_types.specs.Walk.{Known}
use Rattle.arch_types.specs.Turns.{known_in}
use Rattle.channel_graph.specs.Reaching.{is_on}
use Rattle.channel_graph.specs.Over.{bound_of}
use Rattle.arch_checks.specs.Sizes.{deepest, widest}
use Rattle.tower_syntax.specs.Form.{nesting}
use Rattle.tower_syntax.specs.Spelling.{is_name}
use Rattle.tower_syntax.specs.Printed.{raw_form}
use Rattle.tower_reader.specs.Spelled.{byte_limit}
use Rattle.printed_files.specs.Capped.{cap}
use Rattle.printed_files.specs.Fit.{names_fit, plainly}
use Rattle.tower_gen.specs.Draws.{Drawn}
use Rattle.tower_gen.specs.File.{upto, called, period_name, channel_name, output_name, monitor_name, handler_name, layer, heard, told, source_use, made}
use Rattle.tower_gen.specs.System.{states, hears_on, emitters_of, system}

abbrev pub NamesFit : Type 0
NamesFit = (d : Drawn) → names_fit (made d) ≡ true

abbrev pub Outlined : Type 0
Outlined = (d : Drawn) → system d ≡ with_handlers (outline (linked plainly (made d))) (system d).handlers

-- whether no name is declared twice
abbrev pub once : {T : Type 0} → Names T → Bool
once [] = true
once (e ∷ es) = is_none (find es e.0) && once es

abbrev pub NamesOnce : Type 0
NamesOnce = (d : Drawn) → once (declared_in (made d).items) ≡ true

-- the names of a callback, as they are linked
abbrev pub to_state : ℕ → RawPlace Link
to_state k = root (record { at = 0; target = target.State k })

abbrev pub to_param : RawPlace Link
to_param = root (record { at = 0; target = target.Param })

abbrev pub to_binder : RawPlace Link
to_binder = root (record { at = 0; target = target.Binder 0 })

abbrev pub linked_message : Bool → RawExpr Link
linked_message first = if first then cast 0 (word 0 U32) (read to_param) else read to_param

abbrev pub linked_emits : Bool → RawStmts Link
linked_emits emits = if emits then stmt (emit 0 (record { at = 0; target = target.Emitter 0 }) (read (to_state 0))) no_stmts else no_stmts

abbrev pub linked_stmts : ℕ → Bool → Bool → RawStmts Link
linked_stmts factor first emits =
    stmt (set 0 (index 0 (to_state 1) (read (to_state 2))) (linked_message first))
    (stmt (set 0 (to_state 2) (bin 0 Add (read (to_state 2)) (lit 0 (Ix 8) (pos 1))))
    (stmt (loop 0 (called (codes "i")) 8
    (stmt (set 0 (to_state 0) (bin 0 Add (bin 0 Mul (read (to_state 0)) (lit 0 U32 (pos factor))) (read (index 0 (to_state 1) (read to_binder))))) no_stmts))
    (linked_emits emits)))

abbrev pub linked_body : Drawn → ℕ → RawStmts Link
linked_body d i = linked_stmts (d.factor i) (nat_lt i 32) (nat_lt i 56)

-- a handler as it stands in the linked file
abbrev pub use_of : ℕ → Target
use_of i = if nat_lt i 32 then target.Source i else target.Channel (heard i)

abbrev pub written : Drawn → ℕ → Written
written d i = record {
  monitor = i;
  name = called (handler_name i);
  on = record { at = 0; target = use_of i };
  parts =
      (if nat_lt i 56 then emitter 0 (called (codes "e")) (record { at = 0; target = target.Channel (told i) }) 1 ∷ [] else [])
      ++ callback 0 (called (codes "x")) (linked_body d i) ∷ [];
}

abbrev pub HandlersOf : Type 0
HandlersOf = (d : Drawn) → handlers_of (linked plainly (made d)) ≡ map (written d) (upto 64)

-- what a callback knows at its beginning
abbrev pub known : Bool → Bool → Known
known first emits = record {
  names = [];
  records = [];
  message = if first then scalar I64 else scalar U32;
  states = states;
  emitters = if emits then scalar U32 ∷ [] else [];
  binders = [];
  writable = [];
}

abbrev pub KnownAll : Type 0
KnownAll = (d : Drawn) → map (λ i. known_in (system d) (written d i)) (upto 64) ≡ map (λ i. known (nat_lt i 32) (nat_lt i 56)) (upto 64)

abbrev pub Callbacks : Type 0
Callbacks = (d : Drawn) → map (λ i. each callback_of (written d i).parts) (upto 64) ≡ map (λ i. (called (codes "x"), linked_body d i) ∷ []) (upto 64)

abbrev pub Emitters : Type 0
Emitters = (d : Drawn) → map (λ i. each emitter_of (written d i).parts) (upto 64) ≡ map emitters_of (upto 64)

abbrev pub Hearing : Type 0
Hearing = map (λ i. on_of (use_of i)) (upto 64) ≡ map hears_on (upto 64)

-- how many links are behind a handler
abbrev pub rank : ℕ → ℕ
rank i = if nat_lt i 32 then 0 else 1 + layer i

-- whoever hears an emitter of a handler has a greater rank
abbrev pub rises : Drawn → ℕ → ℕ → Emitter → Bool
rises d h k e = not (is_on (system d) (on.Channel e.channel) k) || nat_lt (rank h) (rank k)

abbrev pub Rises : Type 0
Rises = (d : Drawn) → list_all (λ h. list_all (λ k. list_all (rises d h k) (handler (system d) h).emitters) (upto 64)) (upto 64) ≡ true

abbrev pub LowRanks : Type 0
LowRanks = list_all (λ k. nat_le (rank k) 4) (upto 64) ≡ true

-- a handler has at most one emitter, and keeps its bound
abbrev pub is_bounded : Handler → Bool
is_bounded h = nat_le (length h.emitters) 1 && nat_le (most h 0) (bound_of h 0)

abbrev pub Bounded : Type 0
Bounded = (d : Drawn) → list_all (λ h. is_bounded (handler (system d) h)) (upto 64) ≡ true

abbrev pub Costs : Type 0
Costs = (d : Drawn) → map (cost (system d)) (upto 32) ≡ map (λ s. 25550) (upto 32)

abbrev pub Memory : Type 0
Memory = (d : Drawn) → memory (system d) ≡ 54208

abbrev pub Code : Type 0
Code = (d : Drawn) → code (system d) ≡ 291200

abbrev pub Widths : Type 0
Widths = (d : Drawn) → (deepest (system d) ≡ 2) × (widest (system d) ≡ 8)

-- ---- names, and the line

abbrev pub spells_name : List ℕ → Bool
spells_name w = is_name w && nat_le (length w) 64

abbrev pub PeriodNames : Type 0
PeriodNames = list_all (λ k. spells_name (period_name k)) (upto 32) ≡ true

abbrev pub ChannelNames : Type 0
ChannelNames = list_all (λ k. spells_name (channel_name k)) (upto 16) ≡ true

abbrev pub OutputNames : Type 0
OutputNames = list_all (λ k. spells_name (output_name k) && spells_name (channel_name (12 + k))) (upto 4) ≡ true

abbrev pub MonitorNames : Type 0
MonitorNames = list_all (λ k. spells_name (monitor_name k)) (upto 64) ≡ true

abbrev pub HandlerNames : Type 0
HandlerNames = list_all (λ k. spells_name (handler_name k)) (upto 64) ≡ true

abbrev pub UseNames : Type 0
UseNames = list_all (λ k. spells_name (source_use k)) (upto 64) ≡ true

abbrev pub ToldNames : Type 0
ToldNames = list_all (λ k. spells_name (channel_name (told k))) (upto 64) ≡ true

abbrev pub Nested : Type 0
Nested = (d : Drawn) → nat_le (nesting (raw_form (made d))) 256 ≡ true

abbrev pub Capped : Type 0
Capped = (d : Drawn) → nat_le (cap (raw_form (made d))) byte_limit ≡ true
