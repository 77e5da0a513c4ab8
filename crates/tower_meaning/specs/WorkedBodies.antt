-- Worked cases of expressions and statements.
use Rattle.std.specs.Prelude.{◌≡◌, ℕ, List, [], ◌∷◌, map, ℤ, pos, negsuc}
use Rattle.tower_types.specs.declared.scalar.Scalar.TheVariants.{U8, I8, Ix}
use Rattle.tower_types.specs.declared.scalar.BinOp.TheVariants.{Add, Sub, Div, Rem, Less}
use Rattle.tower_types.specs.declared.scalar.UnOp.TheVariants.{Neg}
use Rattle.tower_types.specs.Ty.{scalar}
use Rattle.tower_types.specs.Value.{Value, word, parts, values_of}
use Rattle.tower_syntax.specs.declared.body.Root.TheVariants.{Param, Binder, State}
use Rattle.tower_syntax.specs.declared.arch.On.TheVariants as on
use Rattle.tower_syntax.specs.Tree.{Expr, lit, read, un, bin, cast, Place, place, no_steps, Stmt, bind, local, set, branch, loop, emit}
use Rattle.tower_syntax.specs.Arch.{Body}
use Rattle.tower_syntax.specs.View.{stmts_of}
use Rattle.tower_meaning.specs.Body.{Environment, expr_value, handler_effect}

abbrev pub list : List Value → Value
list vs = parts (values_of vs)

abbrev pub whole : ℕ → Value
whole n = word (pos n)

-- a monitor with one state, a number
abbrev pub holding : ℕ → Value
holding n = list (whole n ∷ [])

-- ---- arithmetic at the ends of the types

abbrev pub no_names : Environment
no_names = record { message = whole 0; binders = []; states = list [] }

abbrev pub Gives : Expr → ℤ → Type 0
Gives e n = expr_value no_names e ≡ word n

abbrev pub u8 : ℕ → Expr
u8 n = lit U8 (pos n)

abbrev pub i8 : ℤ → Expr
i8 n = lit I8 n

abbrev pub ix4 : ℕ → Expr
ix4 n = lit (Ix 4) (pos n)

pub record Arithmetic : Type 0 where
  pub sum_wraps : Gives (bin Add U8 (u8 255) (u8 1)) (pos 0)
  pub least_by_minus_one : Gives (bin Div I8 (i8 (negsuc 127)) (i8 (negsuc 0))) (negsuc 127)
  pub least_modulo_minus_one : Gives (bin Rem I8 (i8 (negsuc 127)) (i8 (negsuc 0))) (pos 0)
  pub by_zero : Gives (bin Div U8 (u8 7) (u8 0)) (pos 0)
  pub modulo_zero : Gives (bin Rem U8 (u8 7) (u8 0)) (pos 7)
  pub toward_zero : Gives (bin Div I8 (i8 (negsuc 6)) (i8 (pos 2))) (negsuc 2)
  pub rest_of_negative : Gives (bin Rem I8 (i8 (negsuc 6)) (i8 (pos 2))) (negsuc 0)
  pub index_wraps : Gives (bin Add (Ix 4) (ix4 3) (ix4 1)) (pos 0)
  pub index_wraps_down : Gives (bin Sub (Ix 4) (ix4 0) (ix4 1)) (pos 3)
  pub negative_wraps : Gives (un Neg U8 (u8 1)) (pos 255)
  pub cast_wraps : Gives (cast I8 (u8 200)) (negsuc 55)
  pub wraps_at_once : Gives (bin Div U8 (bin Add U8 (u8 255) (u8 3)) (u8 2)) (pos 1)

-- ---- statements

-- over a monitor with one state x: the message v, a u8 name t and a loop's name i of three turns
abbrev pub x : Place
x = place (State 0) no_steps

abbrev pub t : Place
t = place (Binder 0) no_steps

abbrev pub i : Place
i = place (Binder 1) no_steps

abbrev pub v : Place
v = place Param no_steps

abbrev pub plus : Expr → Expr → Expr
plus a b = bin Add U8 a b

abbrev pub callback : List Stmt → Body
callback stmts = record { param = []; binders = ([], scalar U8) ∷ ([], scalar (Ix 3)) ∷ []; stmts = stmts_of stmts }

-- with the message 4, these callbacks take x from the first number to the second, and emit these numbers
abbrev pub Takes : List Body → ℕ → ℕ → List ℕ → Type 0
Takes callbacks old new emitted =
    handler_effect [] (record { name = []; monitor = 0; on = on.Source 0; emitters = record { name = []; channel = 0; bound = 9 } ∷ []; callbacks = callbacks })
    (holding old) (whole 4)
    ≡ record { states = holding new; lists = map whole emitted ∷ [] }

pub record Statements : Type 0 where
  pub set_reads_first : Takes (callback (set x (plus (read x) (read x)) ∷ []) ∷ []) 3 6 []
  pub lets : Takes (callback (bind 0 (read x) ∷ set x (read v) ∷ emit 0 (read t) ∷ []) ∷ []) 3 4 (3 ∷ [])
  -- a local is zero each time that it is executed
  pub local_is_zero_again : Takes (callback (loop 1 3 (stmts_of (local 0 ∷ set t (plus (read t) (u8 1)) ∷ set x (plus (read x) (read t)) ∷ [])) ∷ []) ∷ []) 0 3 []
  pub turns_count_up : Takes (callback (loop 1 3 (stmts_of (emit 0 (cast U8 (read i)) ∷ [])) ∷ []) ∷ []) 7 7 (0 ∷ 1 ∷ 2 ∷ [])
  pub no_turn : Takes (callback (loop 1 0 (stmts_of (emit 0 (read x) ∷ [])) ∷ []) ∷ []) 7 7 []
  pub then_branch : Takes (callback (branch (bin Less U8 (read x) (read v)) (stmts_of (set x (u8 9) ∷ [])) (stmts_of (emit 0 (read x) ∷ [])) ∷ []) ∷ []) 3 9 []
  pub else_branch : Takes (callback (branch (bin Less U8 (read x) (read v)) (stmts_of (set x (u8 9) ∷ [])) (stmts_of (emit 0 (read x) ∷ [])) ∷ []) ∷ []) 4 4 (4 ∷ [])
  -- the second callback finds the states that the first left, and none of its names
  pub one_after_another : Takes (callback (bind 0 (u8 5) ∷ set x (u8 2) ∷ emit 0 (u8 1) ∷ []) ∷ callback (emit 0 (read x) ∷ emit 0 (read t) ∷ []) ∷ []) 8 2 (1 ∷ 2 ∷ 0 ∷ [])
