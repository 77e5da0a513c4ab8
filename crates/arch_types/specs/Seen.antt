-- What the program's values stand for.
use Rattle.std.specs.Prelude.{ℕ, List, [], map}
use Rattle.tower_types.specs.declared.scalar.Scalar.TheVariants.{Bool as bool}
use Rattle.tower_types.specs.Ty.{Ty, Fields, scalar, array, rec}
use Rattle.tower_types.specs.View.{ty_of, fields_of}
use Rattle.tower_syntax.specs.View.{arch_of, emitter_of, expr_of, stmt_of, Step, expr_step, step_step, place_step}
use Rattle.tower_syntax.specs.Tree.{Expr, Place}
use Rattle.tower_syntax.specs.declared.body.PlaceStep.{PlaceStep as StepValue}
use Rattle.tower_syntax.specs.declared.body.Expr.TheFolds.{fold-PlaceStep}
use Rattle.tower_syntax.specs.Arch.{Arch}
use Rattle.tower_syntax.specs.Weights.{states_of}
use Rattle.tower_syntax.specs.declared.arch.ArchParts.{ArchParts}
use Rattle.arch_types.specs.declared.scope.Scope.{Scope}
use Rattle.arch_types.specs.declared.scope.Bound.{Bound}
use Rattle.arch_types.specs.declared.lent.TypeRef.{TypeRef}
use Rattle.arch_types.specs.declared.lent.TypeRef.TheVariants as lent
use Rattle.arch_types.specs.declared.rows.TypedExpr.{TypedExpr as ExprValue}
use Rattle.arch_types.specs.declared.rows.TypedPlace.{TypedPlace as PlaceValue}
use Rattle.arch_types.specs.declared.exprs.KeptExpr.{KeptExpr}
use Rattle.arch_types.specs.declared.wanted.Asked.{Asked}
use Rattle.arch_types.specs.declared.stmts.Checked.{Checked as CheckedValue}
use Rattle.arch_types.specs.declared.stmts.AllChecked.{AllChecked as AllCheckedValue}
use Rattle.arch_types.specs.declared.wanted.Asked.TheVariants as asked
use Rattle.arch_types.specs.Wanted.{Wanted, a_scalar, a_number, an_unsigned, an_array, a_record, exactly}
use Rattle.arch_types.specs.File.{messages}
use Rattle.arch_types.specs.Walk.{Known, TypedExpr, TypedPlace, Walked, AllWalked}

abbrev pub view : Asked → Wanted
view asked.Scalar = a_scalar
view asked.Number = a_number
view asked.Unsigned = an_unsigned
view asked.Truth = exactly (scalar bool)
view asked.Array = an_array
view asked.Record = a_record

abbrev pub type_in : TypeRef → Ty
type_in (lent.Scalar s) = scalar s
type_in (lent.Array n t) = array n (ty_of t.now)
type_in (lent.Rec r) = rec r

abbrev pub states_in : ArchParts → ℕ → Fields
states_in system m = states_of (arch_of system) m

abbrev pub known : Arch → Scope → Bound → Known
known system scope bound = record {
  names = system.record_names;
  records = system.records;
  message = type_in scope.message;
  states = states_of system scope.monitor;
  emitters = messages system (map emitter_of scope.emitters);
  binders = fields_of bound.names;
  writable = bound.writable;
}

abbrev pub expr_in : ExprValue → TypedExpr
expr_in x = record { ty = type_in x.ty; tree = expr_of x.tree }

abbrev pub kept_in : KeptExpr → TypedExpr
kept_in x = record { ty = ty_of x.ty; tree = expr_of x.tree }

abbrev pub step_of : StepValue → Step
step_of = fold-PlaceStep Expr Step Place expr_step step_step place_step

abbrev pub steps_in : List StepValue → List Step
steps_in ss = map step_of ss

abbrev pub place_in : PlaceValue → TypedPlace
place_in x = record { ty = type_in x.ty; path = record { root = x.root; steps = steps_in x.steps } }

abbrev pub stmt_in : CheckedValue → Bound → Walked
stmt_in c bound = record { high = c.high; tree = stmt_of c.tree; binders = fields_of bound.names; writable = bound.writable }

abbrev pub stmts_in : AllCheckedValue → Bound → AllWalked
stmts_in c bound = record { high = c.high; trees = map stmt_of c.trees; binders = fields_of bound.names; writable = bound.writable }

-- where no name is bound yet
abbrev pub known_at_entry : Arch → Scope → Known
known_at_entry system scope = record {
  names = system.record_names;
  records = system.records;
  message = type_in scope.message;
  states = states_of system scope.monitor;
  emitters = messages system (map emitter_of scope.emitters);
  binders = [];
  writable = [];
}
