-- What handlers and sources cost, by their text alone. A caller takes the least of a weight and the greatest 64-bit number.
use Rattle.std.specs.Prelude.{ℕ, zero, suc, ◌+◌, ◌*◌, max, sum, List, [], ◌∷◌, map, length, slice_index_or, true, false, ◌==◌}
use Rattle.tower_types.specs.Ty.{Ty, scalar, Fields, Shape, one, many, all, Shapes, no_shapes, shape, shape_in, table_of, words, shape_of_fields}
use Rattle.tower_types.specs.declared.scalar.Scalar.TheVariants.{I64}
use Rattle.tower_syntax.specs.declared.body.Root.{Root}
use Rattle.tower_syntax.specs.declared.body.Root.TheVariants as root
use Rattle.tower_syntax.specs.declared.arch.On.{On}
use Rattle.tower_syntax.specs.declared.arch.On.TheVariants as on
use Rattle.tower_syntax.specs.declared.arch.Listener.{Listener}
use Rattle.tower_syntax.specs.declared.arch.Listener.TheVariants as to
use Rattle.tower_syntax.specs.Tree.{Expr, lit, read, un, bin, choose, cast, Place, place, Steps, no_steps, field, at, Stmt, bind, local, set, copy, branch, loop, emit, Stmts, no_stmts, stmt}
use Rattle.tower_syntax.specs.Arch.{Arch, Source, Channel, Monitor, Emitter, Body, Handler}
use Rattle.tower_syntax.specs.Graph.{handler, subs, reached_by, numbers_before}

abbrev pub no_shape : Shape
no_shape = all no_shapes

abbrev pub nth_shape : Shapes → ℕ → Shape
nth_shape no_shapes k = no_shape
nth_shape (shape s ss) zero = s
nth_shape (shape s ss) (suc k) = nth_shape ss k

abbrev pub shape_at : List Shape → ℕ → Shape
shape_at ss k = slice_index_or ss k no_shape

-- the shapes of a callback's names, of its monitor's states, and of the messages of its handler's emitters
pub record Scope : Type 0 where
  pub message : Shape
  pub binders : List Shape
  pub states : List Shape
  pub emitters : List Shape

abbrev pub root_shape : Scope → Root → Shape
root_shape scope root.Param = scope.message
root_shape scope (root.Binder b) = shape_at scope.binders b
root_shape scope (root.State k) = shape_at scope.states k

abbrev pub field_shape : ℕ → Shape → Shape
field_shape k (one s) = no_shape
field_shape k (many n s) = no_shape
field_shape k (all ss) = nth_shape ss k

abbrev pub element_shape : Shape → Shape
element_shape (one s) = no_shape
element_shape (many n s) = s
element_shape (all ss) = no_shape

abbrev pub steps_shape : Shape → Steps → Shape
steps_shape s no_steps = s
steps_shape s (field k rest) = steps_shape (field_shape k s) rest
steps_shape s (at e rest) = steps_shape (element_shape s) rest

abbrev pub place_shape : Scope → Place → Shape
place_shape scope (place r steps) = steps_shape (root_shape scope r) steps

abbrev mutual
  pub expr_weight : Expr → ℕ
  expr_weight (lit t n) = 2
  expr_weight (read p) = place_weight p + 4
  expr_weight (un op t a) = expr_weight a + 2
  expr_weight (bin op t a b) = expr_weight a + expr_weight b + 2
  expr_weight (choose c a b) = expr_weight c + expr_weight a + expr_weight b + 4
  expr_weight (cast t a) = expr_weight a + 2

  pub place_weight : Place → ℕ
  place_weight (place r steps) = 4 + steps_weight steps

  pub steps_weight : Steps → ℕ
  steps_weight no_steps = 0
  steps_weight (field k rest) = 4 + steps_weight rest
  steps_weight (at e rest) = expr_weight e + 8 + steps_weight rest

-- an expression that is moved: of a value that is no scalar only the place counts
abbrev pub moved_weight : Shape → Expr → ℕ
moved_weight (one s) e = expr_weight e
moved_weight _ (read p) = place_weight p
moved_weight _ e = expr_weight e

-- to move w words
abbrev pub move : ℕ → ℕ
move w = 40 + 24 * w

-- how a branch counts its two lists, and a loop its turns
pub record Counting : Type 0 where
  pub either : ℕ → ℕ → ℕ
  pub repeated : ℕ → ℕ → ℕ

-- as instructions are executed: the greater branch, and each turn
abbrev pub executed : Counting
executed = record { either = max; repeated = λ n body. 16 + n * (body + 16) }

-- as instructions stand in the code: both branches, and the loop's body once
abbrev pub standing : Counting
standing = record { either = λ a b. a + b; repeated = λ n body. 32 + body }

abbrev mutual
  pub stmt_weight : Counting → Scope → Stmt → ℕ
  stmt_weight c scope (bind b e) = expr_weight e + 4
  stmt_weight c scope (local b) = 8 + 24 * words (shape_at scope.binders b)
  stmt_weight c scope (set p e) = place_weight p + expr_weight e + 8
  stmt_weight c scope (copy p q) = place_weight p + place_weight q + move (words (place_shape scope p))
  stmt_weight c scope (branch e a b) = expr_weight e + 8 + c.either (stmts_weight c scope a) (stmts_weight c scope b)
  stmt_weight c scope (loop b n body) = c.repeated n (stmts_weight c scope body)
  stmt_weight c scope (emit k e) = moved_weight (shape_at scope.emitters k) e + move (words (shape_at scope.emitters k))

  pub stmts_weight : Counting → Scope → Stmts → ℕ
  stmts_weight c scope no_stmts = 0
  stmts_weight c scope (stmt s ss) = stmt_weight c scope s + stmts_weight c scope ss

-- how many messages a list of statements emits on an emitter, at most
abbrev mutual
  pub most_of_stmt : ℕ → Stmt → ℕ
  most_of_stmt k (bind b e) = 0
  most_of_stmt k (local b) = 0
  most_of_stmt k (set p e) = 0
  most_of_stmt k (copy p q) = 0
  most_of_stmt k (branch e a b) = max (most_of_stmts k a) (most_of_stmts k b)
  most_of_stmt k (loop b n body) = n * most_of_stmts k body
  most_of_stmt k (emit j e) = elim (j == k) [ true ↦ 1 | false ↦ 0 ]

  pub most_of_stmts : ℕ → Stmts → ℕ
  most_of_stmts k no_stmts = 0
  most_of_stmts k (stmt s ss) = most_of_stmt k s + most_of_stmts k ss

-- the sum over all callbacks
abbrev pub most : Handler → ℕ → ℕ
most h k = sum (map (λ b. most_of_stmts k b.stmts) h.callbacks)

-- the message of an initialisation or a period, or of a channel that is not there, is an i64
abbrev pub source_message : Arch → ℕ → Ty
source_message arch s = slice_index_or (map (λ x. x.message) arch.sources) s (scalar I64)

abbrev pub channel_message : Arch → ℕ → Ty
channel_message arch c = slice_index_or (map (λ x. x.message) arch.channels) c (scalar I64)

-- the type of the messages that come from a source or channel
abbrev pub message_on : Arch → On → Ty
message_on arch (on.Source s) = source_message arch s
message_on arch (on.Channel c) = channel_message arch c

abbrev pub message_words : Arch → On → ℕ
message_words arch c = words (shape_in (table_of arch.records) (message_on arch c))

abbrev pub emitter_words : Arch → Emitter → ℕ
emitter_words arch e = message_words arch (on.Channel e.channel)

abbrev pub field_shapes : List Shape → Fields → List Shape
field_shapes table fields = map (λ f. shape_in table f.1) fields

abbrev pub states_of : Arch → ℕ → Fields
states_of arch m = slice_index_or (map (λ x. x.states) arch.monitors) m []

abbrev pub scope_of : Arch → Handler → Body → Scope
scope_of arch h b =
    let table = table_of arch.records in
    record {
      message = shape_in table (message_on arch h.on);
      binders = field_shapes table b.binders;
      states = field_shapes table (states_of arch h.monitor);
      emitters = map (λ e. shape_in table (channel_message arch e.channel)) h.emitters;
    }

abbrev pub bodies_weight : Counting → Arch → Handler → ℕ
bodies_weight c arch h = sum (map (λ b. stmts_weight c (scope_of arch h b) b.stmts) h.callbacks)

abbrev pub section_by : Counting → Arch → Handler → ℕ
section_by c arch h = 64 + 16 * length h.emitters + bodies_weight c arch h

-- from the lock to the unlock
abbrev pub section : Arch → Handler → ℕ
section arch h = section_by executed arch h

-- to deliver one message of w words to each subscriber, where a handler costs as said
abbrev pub subscribers_weight : (ℕ → ℕ) → ℕ → List Listener → ℕ
subscribers_weight of_handler w [] = 0
subscribers_weight of_handler w (to.Output o ∷ ls) = move w + subscribers_weight of_handler w ls
subscribers_weight of_handler w (to.Handler k ∷ ls) = move w + of_handler k + subscribers_weight of_handler w ls

-- to deliver all that an emitter may hold
abbrev pub emitter_weight : Arch → (ℕ → ℕ) → Emitter → ℕ
emitter_weight arch of_handler e =
    32 + e.bound * (32 + subscribers_weight of_handler (emitter_words arch e) (subs arch (on.Channel e.channel)))

-- a handler with all that follows from it through at most n links
abbrev pub deliver_within : ℕ → Arch → ℕ → ℕ
deliver_within zero arch h = section arch (handler arch h)
deliver_within (suc n) arch h =
    section arch (handler arch h) + sum (map (emitter_weight arch (deliver_within n arch)) (handler arch h).emitters)

-- where no cycle is reached, there are fewer links in a row than handlers
abbrev pub deliver : Arch → ℕ → ℕ
deliver arch h = deliver_within (length arch.handlers) arch h

-- one message of a source, from its TAKE to before the next
abbrev pub cost : Arch → ℕ → ℕ
cost arch s = 64 + subscribers_weight (deliver arch) (message_words arch (on.Source s)) (subs arch (on.Source s))

-- the words of a handler's frame and buffers
abbrev pub handler_memory : Arch → Handler → ℕ
handler_memory arch h =
    let table = table_of arch.records in
    64 + 2 * (message_words arch h.on + sum (map (λ b. sum (map words (field_shapes table b.binders))) h.callbacks))
    + sum (map (λ e. (e.bound + 2) * emitter_words arch e) h.emitters)

abbrev pub monitor_words : Arch → Monitor → ℕ
monitor_words arch m = words (shape_of_fields (table_of arch.records) m.states)

abbrev pub source_numbers : Arch → List ℕ
source_numbers arch = numbers_before (length arch.sources) []

abbrev pub source_memory : Arch → ℕ → ℕ
source_memory arch s = 64 + message_words arch (on.Source s) + sum (map (λ h. handler_memory arch (handler arch h)) (reached_by arch s))

abbrev pub memory : Arch → ℕ
memory arch = sum (map (monitor_words arch) arch.monitors) + sum (map (source_memory arch) (source_numbers arch))

-- the instructions of a handler in one task
abbrev pub handler_code : Arch → Handler → ℕ
handler_code arch h =
    section_by standing arch h
    + sum (map (λ e. 32 + subscribers_weight (λ k. 0) (emitter_words arch e) (subs arch (on.Channel e.channel))) h.emitters)

abbrev pub source_code : Arch → ℕ → ℕ
source_code arch s =
    64 + subscribers_weight (λ k. 0) (message_words arch (on.Source s)) (subs arch (on.Source s))
    + sum (map (λ h. handler_code arch (handler arch h)) (reached_by arch s))

abbrev pub code : Arch → ℕ
code arch = sum (map (source_code arch) (source_numbers arch))
