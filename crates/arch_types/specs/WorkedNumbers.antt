-- Worked scopes, by number; and a file that is numbered, with its checked tree.
use Rattle.std.specs.Prelude.{ℕ, [], ◌∷◌, codes, None, true}
use Rattle.tower_types.specs.declared.scalar.Scalar.TheVariants as is
use Rattle.tower_types.specs.Ty.{Name}
use Rattle.tower_syntax.specs.declared.named.Target.TheVariants as target
use Rattle.tower_syntax.specs.declared.body.Root.TheVariants as root_of
use Rattle.tower_syntax.specs.declared.arch.On.TheVariants as on
use Rattle.tower_syntax.specs.RawTree.{Id, Link, RawPlace, root, truth, read, word, RawStmt, bind, local, set, branch, loop, RawStmts, no_stmts, stmt, callback, state, handler, signal, monitor, Raw}
use Rattle.tower_syntax.specs.Tree as tree
use Rattle.tower_syntax.specs.Arch.{Handler, Arch}
use Rattle.tower_syntax.specs.Typed.{no_names}
use Rattle.arch_types.specs.Outline.{outline, with_handlers}
use Rattle.arch_types.specs.File.{IsChecked}
use Rattle.arch_types.specs.Numbered.{Counts, SeesAll, IsNumbered}

-- ---- scopes

abbrev pub name : ℕ → Name → Id
name at text = record { at = at; name = text }

abbrev pub the_name : ℕ → ℕ → RawPlace Link
the_name at b = root (record { at = at; target = target.Binder b })

-- a callback of a monitor with one state, where nothing is bound yet
abbrev pub at_entry : Counts
at_entry = record { records = 0; states = 1; emitters = 0; names = no_names; bound = 0 }

-- (local x bool), (set x true) with the name of this number, (let y x)
abbrev pub local_name : RawStmt Link
local_name = local 10 (name 17 (codes "x")) (word 19 is.Bool)

abbrev pub set_name : ℕ → RawStmt Link
set_name b = set 40 (the_name 45 b) (truth 47 true)

abbrev pub let_name : ℕ → RawStmt Link
let_name b = bind 60 (name 65 (codes "y")) (read (the_name 67 b))

abbrev pub one : RawStmt Link → RawStmts Link
one s = stmt s no_stmts

abbrev pub then_next : RawStmt Link → RawStmt Link → RawStmts Link
then_next s t = stmt s (one t)

abbrev pub either : RawStmts Link → RawStmts Link → RawStmt Link
either a b = branch 5 (truth 7 true) 9 a 30 b

abbrev pub turns : RawStmts Link → RawStmt Link
turns body = loop 5 (name 9 (codes "i")) 4 body

-- ---- (tower t (signal s bool 1) (monitor m (state x bool) (handler h s (callback v (set x v)))))

abbrev pub set_state : RawStmt Link
set_state = set 70 (root (record { at = 75; target = target.State 0 })) (read (root (record { at = 77; target = target.Param })))

abbrev pub small : Raw Link
small = record {
  at = 0;
  version = 1;
  name = name 7 (codes "t");
  items =
      signal 9 (name 17 (codes "s")) (word 19 is.Bool) 1 None
      ∷ monitor 28 (name 37 (codes "m")) (
      state 39 (name 46 (codes "x")) (word 48 is.Bool)
      ∷ handler 53 (name 62 (codes "h")) (record { at = 64; target = target.Source 0 }) (callback 66 (name 68 (codes "v")) (one set_state) ∷ [])
      ∷ []
      )
      ∷ [];
}

abbrev pub small_handler : Handler
small_handler = record {
  name = codes "h";
  monitor = 0;
  on = on.Source 0;
  emitters = [];
  callbacks =
      record {
        param = codes "v";
        binders = [];
        stmts = tree.stmt (tree.set (tree.place (root_of.State 0) tree.no_steps) (tree.read (tree.place root_of.Param tree.no_steps))) tree.no_stmts;
      }
      ∷ [];
}

abbrev pub small_arch : Arch
small_arch = with_handlers (outline small) (small_handler ∷ [])

pub record WorkedNumbers : Type 0 where
  -- a name is seen behind its binding, and not in it
  pub behind : SeesAll at_entry (then_next local_name (set_name 0))
  pub in_itself : SeesAll at_entry (one (let_name 0)) → ⊥
  -- the name of a list is seen in it alone
  pub in_list : SeesAll at_entry (one (either (then_next local_name (set_name 0)) no_stmts))
  pub in_other_list : SeesAll at_entry (one (either (one local_name) (one (set_name 0)))) → ⊥
  pub behind_list : SeesAll at_entry (then_next (either (one local_name) no_stmts) (set_name 0)) → ⊥
  -- numbers go on behind it
  pub next_number : SeesAll at_entry (stmt (either (one local_name) no_stmts) (then_next local_name (set_name 1)))
  -- and a loop's name in its body
  pub in_body : SeesAll at_entry (one (turns (one (let_name 0))))
  pub behind_loop : SeesAll at_entry (then_next (turns no_stmts) (let_name 0)) → ⊥
  pub numbered : IsNumbered small
  pub checked : IsChecked small small_arch
