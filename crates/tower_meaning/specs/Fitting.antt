-- Environments whose values fit the shapes of a scope, and typed parts of a body in them.
use Rattle.std.specs.Prelude.{◌≡◌, ℕ, ◌<◌, List, [], length, pos, true, slice_index_or, All}
use Rattle.tower_types.specs.declared.scalar.Scalar.{Scalar}
use Rattle.tower_types.specs.Ty.{Shape, all, shapes_of, table_of}
use Rattle.tower_types.specs.Value.{Value, word, fits}
use Rattle.tower_syntax.specs.Tree.{Expr, Place, Steps, no_steps, Stmt, Stmts}
use Rattle.tower_syntax.specs.Weights.{Scope, shape_at}
use Rattle.tower_syntax.specs.Typed.{Names, no_names, HasScalar, HasShape, Leads, Sends, IsTypedStmt, AreTypedStmts}
use Rattle.tower_types.specs.Records.{IsTypeAmong}
use Rattle.tower_syntax.specs.Arch.{Arch, Body}
use Rattle.tower_meaning.specs.Body.{Environment, Execution, Effect, zeros_of_fields, at_entry}

-- there are as many values as shapes, and each fits its shape
pub record AreFitting (shapes : List Shape) (values : List Value) : Type 0 where
  pub count : length values ≡ length shapes
  pub each : (b : ℕ) → b < length shapes → fits (shape_at shapes b) (slice_index_or values b (word (pos 0))) ≡ true

pub record IsFitting (scope : Scope) (env : Environment) : Type 0 where
  pub message : fits scope.message env.message ≡ true
  pub binders : AreFitting scope.binders env.binders
  pub states : fits (all (shapes_of scope.states)) env.states ≡ true

-- a list for each emitter, of messages that fit it
pub record AreFittingLists (shapes : List Shape) (lists : List (List Value)) : Type 0 where
  pub count : length lists ≡ length shapes
  pub each : (k : ℕ) → k < length shapes → All (λ v. fits (shape_at shapes k) v ≡ true) (slice_index_or lists k [])

pub record IsFittingRun (scope : Scope) (x : Execution) : Type 0 where
  pub env : IsFitting scope x.env
  pub lists : AreFittingLists scope.emitters x.lists

-- in the environment the expression is a number of some scalar
pub record IsNumber (env : Environment) (e : Expr) : Type 0 where
  pub scope : Scope
  pub names : Names
  pub scalar : Scalar
  pub values_fit : IsFitting scope env
  pub typed : HasScalar scope names e scalar

-- the steps lead from a value of some shape to one of another
pub record IsPath (env : Environment) (steps : Steps) : Type 0 where
  pub scope : Scope
  pub names : Names
  pub from : Shape
  pub to : Shape
  pub values_fit : IsFitting scope env
  pub typed : Leads scope names from steps to

-- one step leads from a value of some shape to one of another
abbrev pub IsStep : Environment → (Steps → Steps) → Type 0
IsStep env step = IsPath env (step no_steps)

-- the place is a value of some shape
pub record IsPlace (env : Environment) (p : Place) : Type 0 where
  pub scope : Scope
  pub names : Names
  pub shape : Shape
  pub values_fit : IsFitting scope env
  pub typed : HasShape scope names p shape

-- the expression is a number or a place
pub record IsValue (env : Environment) (e : Expr) : Type 0 where
  pub scope : Scope
  pub names : Names
  pub shape : Shape
  pub values_fit : IsFitting scope env
  pub typed : Sends scope names e shape

-- the statement can be executed: it is typed, and the values, those to begin with and the lists fit
pub record Runs (zeros : List Value) (s : Stmt) (x : Execution) : Type 0 where
  pub scope : Scope
  pub names : Names
  pub zeros_fit : AreFitting scope.binders zeros
  pub run_fits : IsFittingRun scope x
  pub typed : IsTypedStmt scope names s

pub record RunsAll (zeros : List Value) (ss : Stmts) (x : Execution) : Type 0 where
  pub scope : Scope
  pub names : Names
  pub zeros_fit : AreFitting scope.binders zeros
  pub run_fits : IsFittingRun scope x
  pub typed : AreTypedStmts scope names ss

-- a callback can be called: its binders have proper types, and its statements are typed where it begins
pub record RunsCallback (arch : Arch) (message : Value) (before : Effect) (b : Body) : Type 0 where
  pub scope : Scope
  pub known : All (λ f. IsTypeAmong (length arch.records) f.1) b.binders
  pub zeros_fit : AreFitting scope.binders (zeros_of_fields (table_of arch.records) b.binders)
  pub run_fits : IsFittingRun scope (record { env = at_entry message before.states (zeros_of_fields (table_of arch.records) b.binders); lists = before.lists })
  pub typed : AreTypedStmts scope no_names b.stmts
