-- The places of a file where names stand, in text order, but for the file's own and those after `get`, with what is in
-- scope at each.
use Rattle.std.specs.Prelude.{ℕ, ◌+◌, List, [], ◌∷◌, ◌++◌, Option, Some, None}
use Rattle.std.specs.Option.{option_map, option_or}
use Rattle.tower_syntax.specs.declared.named.Target.{Target}
use Rattle.tower_syntax.specs.declared.named.Target.TheVariants as target
use Rattle.tower_syntax.specs.RawTree.{Id, RawType, word, rec, array, RawPlace, root, get, index, RawExpr, truth, read, lit, un, bin, choose, cast, RawStmt, bind, local, set, copy, branch, loop, emit, RawStmts, no_stmts, stmt, RawField, RawHpart, emitter, callback, RawPart, state, handler, RawItem, fields, init, period, signal, channel, output, monitor, Raw}
use Rattle.arch_names.specs.declared.names.Declared.{Declared}
use Rattle.arch_names.specs.declared.names.Thing.{Thing}
use Rattle.arch_names.specs.declared.names.Scope.{Scope}
use Rattle.arch_names.specs.declared.fault.Sort.TheVariants as sort
use Rattle.arch_names.specs.Names.{Find, find}
use Rattle.arch_names.specs.Sets.{declared_as, each, fields_of, emitters_of, states_of, declared_in}
use Rattle.arch_names.specs.Site.{Site, declares, binds, refers, part_type, picks}

-- what stands around a callback: the file's set, the states of its monitor and the emitters of its handler
pub record Around : Type 0 where
  pub file : Find Thing
  pub states : Find Target
  pub emitters : Find Target

abbrev pub around_of : Find Thing → Find Target → Find Target → Around
around_of file states emitters = record { file = file; states = states; emitters = emitters }

abbrev pub place_of : {T : Type 0} → Option (Declared T) → Option ℕ
place_of found = option_map (λ d. d.at) found

-- a name of a set that is declared
abbrev pub own : {T : Type 0} → Find T → Id → Site
own names x = declares (place_of (names x.name)) x

-- a type's use; in a field of a record it is known where that record is declared
abbrev pub type_site : Find Thing → Option ℕ → Id → Site
type_site file None u = refers sort.Record (file u.name) u
type_site file (Some record_at) u = part_type record_at (file u.name) u

abbrev pub type_sites : Find Thing → Option ℕ → RawType Id → List Site
type_sites file within (word at s) = []
type_sites file within (rec u) = type_site file within u ∷ []
type_sites file within (array at n t) = type_sites file within t

-- the states, and then the names in scope
abbrev pub in_scope : Find Target → Scope → Find Target
in_scope states scope name = option_or (states name) (find scope.names name)

abbrev pub name_site : Find Target → Id → Site
name_site known u = picks (known u.name) u

abbrev mutual
  pub place_sites : Find Thing → Find Target → RawPlace Id → List Site
  place_sites file known (root u) = name_site known u ∷ []
  place_sites file known (get at p f) = place_sites file known p
  place_sites file known (index at p e) = place_sites file known p ++ expr_sites file known e

  pub expr_sites : Find Thing → Find Target → RawExpr Id → List Site
  expr_sites file known (truth at b) = []
  expr_sites file known (read p) = place_sites file known p
  expr_sites file known (lit at t n) = []
  expr_sites file known (un at op x) = expr_sites file known x
  expr_sites file known (bin at op x y) = expr_sites file known x ++ expr_sites file known y
  expr_sites file known (choose at c x y) = (expr_sites file known c ++ expr_sites file known x) ++ expr_sites file known y
  expr_sites file known (cast at t x) = type_sites file None t ++ expr_sites file known x

-- how many names statements bind
abbrev mutual
  pub bound_by : RawStmt Id → ℕ
  bound_by (bind at x e) = 1
  bound_by (local at x t) = 1
  bound_by (set at p e) = 0
  bound_by (copy at p q) = 0
  bound_by (branch at e then_at ss else_at ts) = bound_by_all ss + bound_by_all ts
  bound_by (loop at x n body) = 1 + bound_by_all body
  bound_by (emit at u e) = 0

  pub bound_by_all : RawStmts Id → ℕ
  bound_by_all no_stmts = 0
  bound_by_all (stmt s ss) = bound_by s + bound_by_all ss

-- the same names, where so many more were bound
abbrev pub past : Scope → ℕ → Scope
past scope n = record { names = scope.names; binders = scope.binders + n }

-- one name more
abbrev pub with_name : Scope → Id → Scope
with_name scope x = record { names = scope.names ++ declared_as x (target.Binder scope.binders) ∷ []; binders = scope.binders + 1 }

-- the scope of the next statement
abbrev pub after : Scope → RawStmt Id → Scope
after s (bind at x e) = with_name s x
after s (local at x t) = with_name s x
after s (set at p e) = s
after s (copy at p q) = s
after s (branch at e then_at ss else_at ts) = past (past s (bound_by_all ss)) (bound_by_all ts)
after s (loop at x n body) = past s (1 + bound_by_all body)
after s (emit at u e) = s

-- a name that is bound here
abbrev pub new_name : Find Target → Id → Site
new_name known x = binds (place_of (known x.name)) x

abbrev pub seen : Around → Scope → Find Target
seen a s = in_scope a.states s

abbrev mutual
  pub stmt_sites : Around → Scope → RawStmt Id → List Site
  stmt_sites a s (bind at x e) = new_name (seen a s) x ∷ expr_sites a.file (seen a s) e
  stmt_sites a s (local at x t) = new_name (seen a s) x ∷ type_sites a.file None t
  stmt_sites a s (set at p e) = place_sites a.file (seen a s) p ++ expr_sites a.file (seen a s) e
  stmt_sites a s (copy at p q) = place_sites a.file (seen a s) p ++ place_sites a.file (seen a s) q
  stmt_sites a s (branch at e then_at ss else_at ts) = (expr_sites a.file (seen a s) e ++ all_sites a s ss) ++ all_sites a (past s (bound_by_all ss)) ts
  stmt_sites a s (loop at x n body) = new_name (seen a s) x ∷ all_sites a (with_name s x) body
  stmt_sites a s (emit at u e) = picks (a.emitters u.name) u ∷ expr_sites a.file (seen a s) e

  pub all_sites : Around → Scope → RawStmts Id → List Site
  all_sites a s no_stmts = []
  all_sites a s (stmt t ts) = stmt_sites a s t ++ all_sites a (after s t) ts

abbrev pub no_names : Scope
no_names = record { names = []; binders = 0 }

-- the scope in which a callback begins
abbrev pub entry : Id → Scope
entry x = record { names = declared_as x target.Param ∷ []; binders = 0 }

abbrev pub hpart_sites : Around → RawHpart Id → List Site
hpart_sites a (emitter at x u bound) = own a.emitters x ∷ refers sort.Channel (a.file u.name) u ∷ []
hpart_sites a (callback at x ss) = new_name (in_scope a.states no_names) x ∷ all_sites a (entry x) ss

-- what stands around the callbacks of a handler with these parts
abbrev pub around : Find Thing → Find Target → List (RawHpart Id) → Around
around file states hs = around_of file states (find (emitters_of hs))

abbrev pub part_sites : Find Thing → Find Target → RawPart Id → List Site
part_sites file states (state at x t) = own states x ∷ type_sites file None t
part_sites file states (handler at x u hs) = own file x ∷ refers sort.SourceOrChannel (file u.name) u ∷ each (hpart_sites (around file states hs)) hs

abbrev pub field_sites : Find Thing → ℕ → Find (Unit {0}) → RawField Id → List Site
field_sites file record_at names f = own names f.name ∷ type_sites file (Some record_at) f.ty

abbrev pub item_sites : Find Thing → RawItem Id → List Site
item_sites file (fields at x fs) = own file x ∷ each (field_sites file x.at (find (fields_of fs))) fs
item_sites file (init at x p) = own file x ∷ []
item_sites file (period at x ms p d) = own file x ∷ []
item_sites file (signal at x t p d) = own file x ∷ type_sites file None t
item_sites file (channel at x t) = own file x ∷ type_sites file None t
item_sites file (output at x u) = own file x ∷ refers sort.Channel (file u.name) u ∷ []
item_sites file (monitor at x ps) = own file x ∷ each (part_sites file (find (states_of ps))) ps

abbrev pub sites : Raw Id → List Site
sites raw = each (item_sites (find (declared_in raw.items))) raw.items
