-- What is typed has a value that fits.
use Rattle.std.proofs.Common.{◌≡◌, ℕ, ◌<◌, pos, ap, sym, ◌∙◌, arith, true, unsigned_abs}
use Rattle.tower_types.specs.declared.scalar.Scalar.{Scalar}
use Rattle.tower_types.specs.declared.scalar.Scalar.TheVariants as scalar
use Rattle.tower_types.specs.Ty.{Shape, one, many, all}
use Rattle.tower_types.specs.Value.{Value, word, num, fits_scalar}
use Rattle.tower_syntax.specs.declared.body.Root.{Root}
use Rattle.tower_syntax.specs.Tree.{Expr, Place, Steps, no_steps, field, at}
use Rattle.tower_syntax.specs.Weights.{root_shape, nth_shape}
use Rattle.tower_syntax.specs.Typed.{Names, HasRoot, HasScalar, HasShape, Leads as Path}
use Rattle.tower_meaning.specs.Body.{Environment, expr_value, place_value, path_of}
use Rattle.tower_meaning.specs.Fitting.{IsFitting}
use Rattle.tower_meaning.proofs.Fitting as fitting
use Rattle.tower_meaning.proofs.Values as values
use Rattle.tower_meaning.proofs.KeepsTypes.{operations}
use Rattle.stmt_code.specs.Layout.{Layout}
use Rattle.stmt_code.proofs.Named.{named}
use Rattle.stmt_code.proofs.Flats.{Fits, Along, shape_along}
use Rattle.stmt_code.proofs.WordSums.{index_below}

pub word_is : (t : Scalar) (v : Value) → Fits (one t) v → v ≡ word (num v)
word_is t v f = fitting.number_fits t v f

pub num_fits : (t : Scalar) (v : Value) → Fits (one t) v → fits_scalar t (num v) ≡ true
num_fits t v f = fitting.num_fits t v f

pub index_is : (n : ℕ) (v : Value) → Fits (one (scalar.Ix n)) v → (num v ≡ pos (unsigned_abs (num v))) × (unsigned_abs (num v) < n)
index_is n v f =
    let i = index_below n (num v) (num_fits (scalar.Ix n) v f) in
    let e : unsigned_abs (num v) ≡ i.0 = ap unsigned_abs i.1 in
    (i.1 ∙ ap pos (sym e), omega (arith, e, i.2))

module _ (w : Layout) (sc : Names) (env : Environment) (fit : IsFitting w.scope env) where
  pub root_fits : (r : Root) → HasRoot w.scope sc r → Fits (root_shape w.scope r) (named r env)
  root_fits r h = values.root_fits w.scope sc env r fit h

  pub expr_fits : (e : Expr) (t : Scalar) → HasScalar w.scope sc e t → Fits (one t) (expr_value env e)
  expr_fits e t h = values.expr_fits operations w.scope sc env fit e t h

  pub place_fits : (p : Place) (t : Shape) → HasShape w.scope sc p t → Fits t (place_value env p)
  place_fits p t h = values.place_fits operations w.scope sc env fit p t h

  pub path_along : (ss : Steps) (s t : Shape) → Path w.scope sc s ss t → Along s (path_of env ss)
  path_along no_steps s t h = tt
  path_along (field k ss) (one s) t h = absurd h
  path_along (field k ss) (many n s) t h = absurd h
  path_along (field k ss) (all us) t h = (h.0, path_along ss (nth_shape us k) t h.1)
  path_along (at e ss) (one s) t h = absurd h
  path_along (at e ss) (many n s) t h = ((index_is n (expr_value env e) (expr_fits e (scalar.Ix n) h.0)).1, path_along ss s t h.1)
  path_along (at e ss) (all us) t h = absurd h

  pub path_ends : (ss : Steps) (s t : Shape) → Path w.scope sc s ss t → shape_along s (path_of env ss) ≡ t
  path_ends no_steps s t h = h
  path_ends (field k ss) (one s) t h = absurd h
  path_ends (field k ss) (many n s) t h = absurd h
  path_ends (field k ss) (all us) t h = path_ends ss (nth_shape us k) t h.1
  path_ends (at e ss) (one s) t h = absurd h
  path_ends (at e ss) (many n s) t h = path_ends ss s t h.1
  path_ends (at e ss) (all us) t h = absurd h
