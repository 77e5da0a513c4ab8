-- The codes of shapes and layouts, by which a struct may have them in its model.
use Rattle.std.proofs.Common.{◌≡◌, ◌≢◌, ℕ, List, refl, ap, arith}
use Rattle.std.specs.Coded.{Coded, code_by, coded×, coded_ℕ, coded_list}
use base.Stored.{Gv, gnil, gnum, gcons}
use Rattle.tower_types.specs.contracts.scalar.Scalar as scalars
use Rattle.tower_types.specs.Ty.{Shape, one, many, all, Shapes, no_shapes, shape}
use Rattle.tower_syntax.specs.Weights.{Scope}
use Rattle.stmt_code.specs.Layout.{Layout}

abbrev head : Gv → Gv
head gnil = gnil
head (gnum n) = gnil
head (gcons a b) = a

abbrev tail : Gv → Gv
tail gnil = gnil
tail (gnum n) = gnil
tail (gcons a b) = b

-- the number of the constructor
abbrev tag : Gv → ℕ
tag gnil = 0
tag (gnum n) = n
tag (gcons gnil b) = 0
tag (gcons (gnum n) b) = n
tag (gcons (gcons a c) b) = 0

differ : (m n : ℕ) → m ≡ n → m ≢ n → ⊥
differ m n p other = other p

abbrev mutual
  pub code_shape : Shape → Gv
  code_shape (one a0) = gcons (gnum 0) (scalars.the_row.coded.code a0)
  code_shape (many a0 a1) = gcons (gnum 1) (gcons (coded_ℕ.code a0) (code_shape a1))
  code_shape (all a0) = gcons (gnum 2) (code_shapes a0)

  pub code_shapes : Shapes → Gv
  code_shapes no_shapes = gnum 0
  code_shapes (shape a0 a1) = gcons (gnum 1) (gcons (code_shape a0) (code_shapes a1))

mutual
  pub inj_shape : (x y : Shape) → code_shape x ≡ code_shape y → x ≡ y
  inj_shape (one a0) (one b0) p = λ i. one (scalars.the_row.coded.inj a0 b0 (ap (λ g. tail g) p) i)
  inj_shape (one a0) (many b0 b1) p = absurd (differ 0 1 (ap tag p) (omega arith))
  inj_shape (one a0) (all b0) p = absurd (differ 0 2 (ap tag p) (omega arith))
  inj_shape (many a0 a1) (one b0) p = absurd (differ 1 0 (ap tag p) (omega arith))
  inj_shape (many a0 a1) (many b0 b1) p = λ i. many (coded_ℕ.inj a0 b0 (ap (λ g. head (tail g)) p) i) (inj_shape a1 b1 (ap (λ g. tail (tail g)) p) i)
  inj_shape (many a0 a1) (all b0) p = absurd (differ 1 2 (ap tag p) (omega arith))
  inj_shape (all a0) (one b0) p = absurd (differ 2 0 (ap tag p) (omega arith))
  inj_shape (all a0) (many b0 b1) p = absurd (differ 2 1 (ap tag p) (omega arith))
  inj_shape (all a0) (all b0) p = λ i. all (inj_shapes a0 b0 (ap (λ g. tail g) p) i)

  pub inj_shapes : (x y : Shapes) → code_shapes x ≡ code_shapes y → x ≡ y
  inj_shapes no_shapes no_shapes p = refl
  inj_shapes no_shapes (shape b0 b1) p = absurd (differ 0 1 (ap tag p) (omega arith))
  inj_shapes (shape a0 a1) no_shapes p = absurd (differ 1 0 (ap tag p) (omega arith))
  inj_shapes (shape a0 a1) (shape b0 b1) p = λ i. shape (inj_shape a0 b0 (ap (λ g. head (tail g)) p) i) (inj_shapes a1 b1 (ap (λ g. tail (tail g)) p) i)

abbrev pub coded_shape : Coded Shape
coded_shape = record { code = code_shape; inj = inj_shape }

abbrev pub coded_scope : Coded Scope
coded_scope =
    code_by (Shape × (List Shape × (List Shape × List Shape)))
    (coded× coded_shape (coded× (coded_list coded_shape) (coded× (coded_list coded_shape) (coded_list coded_shape))))
    (λ s. (s.message, (s.binders, (s.states, s.emitters))))
    (λ p. record { message = p.0; binders = p.1.0; states = p.1.1.0; emitters = p.1.1.1 })
    (λ _. refl)

abbrev pub coded_layout : Coded Layout
coded_layout =
    code_by (Scope × (ℕ × (ℕ × (List ℕ × (ℕ × (List ℕ × ℕ))))))
    (coded× coded_scope (coded× coded_ℕ (coded× coded_ℕ (coded× (coded_list coded_ℕ) (coded× coded_ℕ (coded× (coded_list coded_ℕ) coded_ℕ))))))
    (λ w. (w.scope, (w.monitor, (w.param, (w.binders, (w.temps, (w.scratch, w.first_buffer)))))))
    (λ p. record {
      scope = p.0;
      monitor = p.1.0;
      param = p.1.1.0;
      binders = p.1.1.1.0;
      temps = p.1.1.1.1.0;
      scratch = p.1.1.1.1.1.0;
      first_buffer = p.1.1.1.1.1.1;
    })
    (λ _. refl)
