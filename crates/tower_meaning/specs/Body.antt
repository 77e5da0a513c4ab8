-- What expressions, statements and handlers do.
use Rattle.std.specs.Prelude.{ℕ, zero, suc, List, [], ◌∷◌, ◌++◌, map, fold, replicate, length, slice_index_or, slice_set, cond, pos, unsigned_abs}
use Rattle.tower_types.specs.Ty.{Fields, Shape, shape_in, table_of}
use Rattle.tower_types.specs.Value.{Value, word, part, with_part, num, zero_of}
use Rattle.tower_types.specs.Arithmetic.{wrap_to, is_true, binary_of, unary_of}
use Rattle.tower_syntax.specs.declared.body.Root.{Root}
use Rattle.tower_syntax.specs.declared.body.Root.TheVariants as root
use Rattle.tower_syntax.specs.Tree.{Expr, lit, read, un, bin, choose, cast, Place, place, Steps, no_steps, field, at, Stmt, bind, local, set, copy, branch, loop, emit, Stmts, no_stmts, stmt}
use Rattle.tower_syntax.specs.Arch.{Arch, Handler, Body}
use Rattle.tower_syntax.specs.Graph.{handler}

-- a value for each name: the message, the names that the callback binds, and the monitor's states
pub record Environment : Type 0 where
  pub message : Value
  pub binders : List Value
  pub states : Value

abbrev pub root_value : Environment → Root → Value
root_value env root.Param = env.message
root_value env (root.Binder b) = slice_index_or env.binders b (word (pos 0))
root_value env (root.State k) = part k env.states

-- the environment with another value for a name
abbrev pub with_root : Root → Value → Environment → Environment
with_root root.Param v env = record env { message = v }
with_root (root.Binder b) v env = record env { binders = slice_set env.binders b v }
with_root (root.State k) v env = record env { states = with_part k (λ old. v) env.states }

-- the part of a value at the end of a path, and the value with another part there
abbrev pub part_at : List ℕ → Value → Value
part_at [] v = v
part_at (k ∷ ks) v = part_at ks (part k v)

abbrev pub with_part_at : List ℕ → Value → Value → Value
with_part_at [] new v = new
with_part_at (k ∷ ks) new v = with_part k (with_part_at ks new) v

-- operations are done at the scalar that the tree gives, and of `choose` one side counts
abbrev mutual
  pub expr_value : Environment → Expr → Value
  expr_value env (lit t n) = word n
  expr_value env (read p) = place_value env p
  expr_value env (un op t a) = word (unary_of op t (num (expr_value env a)))
  expr_value env (bin op t a b) = word (binary_of op t (num (expr_value env a)) (num (expr_value env b)))
  expr_value env (choose c a b) = cond (is_true (num (expr_value env c))) (expr_value env a) (expr_value env b)
  expr_value env (cast t a) = word (wrap_to t (num (expr_value env a)))

  pub place_value : Environment → Place → Value
  place_value env (place r steps) = part_at (path_of env steps) (root_value env r)

  -- fields by their numbers, and elements by the values of their indices
  pub path_of : Environment → Steps → List ℕ
  path_of env no_steps = []
  path_of env (field k steps) = k ∷ path_of env steps
  path_of env (at e steps) = unsigned_abs (num (expr_value env e)) ∷ path_of env steps

-- the environment with another value at a place
abbrev pub with_place : Place → Value → Environment → Environment
with_place (place r steps) v env = with_root r (with_part_at (path_of env steps) v (root_value env r)) env

-- what statements change: the environment, and the list of messages of each emitter
pub record Execution : Type 0 where
  pub env : Environment
  pub lists : List (List Value)

abbrev pub in_env : Environment → Execution → Execution
in_env env x = record x { env = env }

abbrev pub emitted : ℕ → Value → Execution → Execution
emitted k v x = record x { lists = slice_set x.lists k (slice_index_or x.lists k [] ++ v ∷ []) }

-- f 0, then f 1, up to f (n - 1)
abbrev pub in_turn : {A : Type 0} → ℕ → (ℕ → A → A) → A → A
in_turn zero f a = a
in_turn (suc n) f a = f n (in_turn n f a)

-- zeros has the zero value of each name that the callback binds
abbrev mutual
  pub after_stmt : List Value → Stmt → Execution → Execution
  after_stmt zeros (bind b e) x = in_env (with_root (root.Binder b) (expr_value x.env e) x.env) x
  after_stmt zeros (local b) x = in_env (with_root (root.Binder b) (slice_index_or zeros b (word (pos 0))) x.env) x
  after_stmt zeros (set p e) x = in_env (with_place p (expr_value x.env e) x.env) x
  after_stmt zeros (copy p q) x = in_env (with_place p (place_value x.env q) x.env) x
  after_stmt zeros (branch e a b) x = cond (is_true (num (expr_value x.env e))) (after_stmts zeros a x) (after_stmts zeros b x)
  after_stmt zeros (loop b n body) x =
      in_turn n (λ i y. after_stmts zeros body (in_env (with_root (root.Binder b) (word (pos i)) y.env) y)) x
  after_stmt zeros (emit k e) x = emitted k (expr_value x.env e) x

  pub after_stmts : List Value → Stmts → Execution → Execution
  after_stmts zeros no_stmts x = x
  after_stmts zeros (stmt s ss) x = after_stmts zeros ss (after_stmt zeros s x)

-- what a handler leaves: its monitor's value, and the list of messages of each emitter
pub record Effect : Type 0 where
  pub states : Value
  pub lists : List (List Value)

abbrev pub zeros_of_fields : List Shape → Fields → List Value
zeros_of_fields table fields = map (λ f. zero_of (shape_in table f.1)) fields

-- a callback begins with the message and the states alone: the names that it binds have their zero values
abbrev pub at_entry : Value → Value → List Value → Environment
at_entry message states zeros = record { message = message; binders = zeros; states = states }

abbrev pub after_callback : List Shape → Value → Effect → Body → Effect
after_callback table message f body =
    let zeros = zeros_of_fields table body.binders in
    let x = after_stmts zeros body.stmts (record { env = at_entry message f.states zeros; lists = f.lists }) in
    record { states = x.env.states; lists = x.lists }

-- all callbacks in text order, over the shapes of the records
abbrev pub handler_effect : List Shape → Handler → Value → Value → Effect
handler_effect table h states message =
    fold (after_callback table message) (record { states = states; lists = replicate (length h.emitters) [] }) h.callbacks

-- what a handler does with its monitor's value and a message
abbrev pub effect : Arch → ℕ → Value → Value → Effect
effect arch h states message = handler_effect (table_of arch.records) (handler arch h) states message
