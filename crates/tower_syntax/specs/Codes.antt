-- The codes of a system's trees, by which a struct may have them in its model. Written by tools/codes.py.
use Rattle.std.proofs.Common.{◌≡◌, ◌≢◌, ℕ, List, Option, refl, ap, arith}
use Rattle.std.specs.Coded.{Coded, code_by, coded_ℕ, coded_ℤ, coded_list, coded_option, coded×}
use base.Stored.{Gv, gnil, gnum, gcons}
use Rattle.tower_types.specs.contracts.scalar.Scalar as scalars
use Rattle.tower_types.specs.contracts.scalar.UnOp as unaries
use Rattle.tower_types.specs.contracts.scalar.BinOp as binaries
use Rattle.tower_types.specs.Ty.{Ty, Name, Fields, Records}
use Rattle.tower_types.specs.Codes.{coded_ty}
use Rattle.tower_syntax.specs.contracts.body.Root as roots
use Rattle.tower_syntax.specs.contracts.arch.SourceKind as kinds
use Rattle.tower_syntax.specs.contracts.arch.On as ons
use Rattle.tower_syntax.specs.contracts.arch.Listener as listeners
use Rattle.tower_syntax.specs.declared.arch.SourceKind.{SourceKind}
use Rattle.tower_syntax.specs.declared.arch.On.{On}
use Rattle.tower_syntax.specs.declared.arch.Listener.{Listener}
use Rattle.tower_syntax.specs.Tree.{Expr, lit, read, un, bin, choose, cast, Place, place, Steps, no_steps, field, at, Stmt, bind, local, set, copy, branch, loop, emit, Stmts, no_stmts, stmt}
use Rattle.tower_syntax.specs.Arch.{Source, Channel, Output, Monitor, Emitter, Body, Handler, Arch}

abbrev head : Gv → Gv
head gnil = gnil
head (gnum n) = gnil
head (gcons a b) = a

abbrev tail : Gv → Gv
tail gnil = gnil
tail (gnum n) = gnil
tail (gcons a b) = b

-- the number of the constructor
abbrev tag : Gv → ℕ
tag gnil = 0
tag (gnum n) = n
tag (gcons gnil b) = 0
tag (gcons (gnum n) b) = n
tag (gcons (gcons a c) b) = 0

differ : (m n : ℕ) → m ≡ n → m ≢ n → ⊥
differ m n p other = other p

abbrev mutual
  pub code_expr : Expr → Gv
  code_expr (lit a0 a1) = gcons (gnum 0) (gcons (scalars.the_row.coded.code a0) (coded_ℤ.code a1))
  code_expr (read a0) = gcons (gnum 1) (code_place a0)
  code_expr (un a0 a1 a2) = gcons (gnum 2) (gcons (unaries.the_row.coded.code a0) (gcons (scalars.the_row.coded.code a1) (code_expr a2)))
  code_expr (bin a0 a1 a2 a3) = gcons (gnum 3) (gcons (binaries.the_row.coded.code a0) (gcons (scalars.the_row.coded.code a1) (gcons (code_expr a2) (code_expr a3))))
  code_expr (choose a0 a1 a2) = gcons (gnum 4) (gcons (code_expr a0) (gcons (code_expr a1) (code_expr a2)))
  code_expr (cast a0 a1) = gcons (gnum 5) (gcons (scalars.the_row.coded.code a0) (code_expr a1))

  pub code_place : Place → Gv
  code_place (place a0 a1) = gcons (gnum 0) (gcons (roots.the_row.coded.code a0) (code_steps a1))

  pub code_steps : Steps → Gv
  code_steps no_steps = gnum 0
  code_steps (field a0 a1) = gcons (gnum 1) (gcons (coded_ℕ.code a0) (code_steps a1))
  code_steps (at a0 a1) = gcons (gnum 2) (gcons (code_expr a0) (code_steps a1))

mutual
  pub inj_expr : (x y : Expr) → code_expr x ≡ code_expr y → x ≡ y
  inj_expr (lit a0 a1) (lit b0 b1) p = λ i. lit (scalars.the_row.coded.inj a0 b0 (ap (λ g. head (tail g)) p) i) (coded_ℤ.inj a1 b1 (ap (λ g. tail (tail g)) p) i)
  inj_expr (lit a0 a1) (read b0) p = absurd (differ 0 1 (ap tag p) (omega arith))
  inj_expr (lit a0 a1) (un b0 b1 b2) p = absurd (differ 0 2 (ap tag p) (omega arith))
  inj_expr (lit a0 a1) (bin b0 b1 b2 b3) p = absurd (differ 0 3 (ap tag p) (omega arith))
  inj_expr (lit a0 a1) (choose b0 b1 b2) p = absurd (differ 0 4 (ap tag p) (omega arith))
  inj_expr (lit a0 a1) (cast b0 b1) p = absurd (differ 0 5 (ap tag p) (omega arith))
  inj_expr (read a0) (lit b0 b1) p = absurd (differ 1 0 (ap tag p) (omega arith))
  inj_expr (read a0) (read b0) p = λ i. read (inj_place a0 b0 (ap (λ g. tail g) p) i)
  inj_expr (read a0) (un b0 b1 b2) p = absurd (differ 1 2 (ap tag p) (omega arith))
  inj_expr (read a0) (bin b0 b1 b2 b3) p = absurd (differ 1 3 (ap tag p) (omega arith))
  inj_expr (read a0) (choose b0 b1 b2) p = absurd (differ 1 4 (ap tag p) (omega arith))
  inj_expr (read a0) (cast b0 b1) p = absurd (differ 1 5 (ap tag p) (omega arith))
  inj_expr (un a0 a1 a2) (lit b0 b1) p = absurd (differ 2 0 (ap tag p) (omega arith))
  inj_expr (un a0 a1 a2) (read b0) p = absurd (differ 2 1 (ap tag p) (omega arith))
  inj_expr (un a0 a1 a2) (un b0 b1 b2) p = λ i. un (unaries.the_row.coded.inj a0 b0 (ap (λ g. head (tail g)) p) i) (scalars.the_row.coded.inj a1 b1 (ap (λ g. head (tail (tail g))) p) i) (inj_expr a2 b2 (ap (λ g. tail (tail (tail g))) p) i)
  inj_expr (un a0 a1 a2) (bin b0 b1 b2 b3) p = absurd (differ 2 3 (ap tag p) (omega arith))
  inj_expr (un a0 a1 a2) (choose b0 b1 b2) p = absurd (differ 2 4 (ap tag p) (omega arith))
  inj_expr (un a0 a1 a2) (cast b0 b1) p = absurd (differ 2 5 (ap tag p) (omega arith))
  inj_expr (bin a0 a1 a2 a3) (lit b0 b1) p = absurd (differ 3 0 (ap tag p) (omega arith))
  inj_expr (bin a0 a1 a2 a3) (read b0) p = absurd (differ 3 1 (ap tag p) (omega arith))
  inj_expr (bin a0 a1 a2 a3) (un b0 b1 b2) p = absurd (differ 3 2 (ap tag p) (omega arith))
  inj_expr (bin a0 a1 a2 a3) (bin b0 b1 b2 b3) p = λ i. bin (binaries.the_row.coded.inj a0 b0 (ap (λ g. head (tail g)) p) i) (scalars.the_row.coded.inj a1 b1 (ap (λ g. head (tail (tail g))) p) i) (inj_expr a2 b2 (ap (λ g. head (tail (tail (tail g)))) p) i) (inj_expr a3 b3 (ap (λ g. tail (tail (tail (tail g)))) p) i)
  inj_expr (bin a0 a1 a2 a3) (choose b0 b1 b2) p = absurd (differ 3 4 (ap tag p) (omega arith))
  inj_expr (bin a0 a1 a2 a3) (cast b0 b1) p = absurd (differ 3 5 (ap tag p) (omega arith))
  inj_expr (choose a0 a1 a2) (lit b0 b1) p = absurd (differ 4 0 (ap tag p) (omega arith))
  inj_expr (choose a0 a1 a2) (read b0) p = absurd (differ 4 1 (ap tag p) (omega arith))
  inj_expr (choose a0 a1 a2) (un b0 b1 b2) p = absurd (differ 4 2 (ap tag p) (omega arith))
  inj_expr (choose a0 a1 a2) (bin b0 b1 b2 b3) p = absurd (differ 4 3 (ap tag p) (omega arith))
  inj_expr (choose a0 a1 a2) (choose b0 b1 b2) p = λ i. choose (inj_expr a0 b0 (ap (λ g. head (tail g)) p) i) (inj_expr a1 b1 (ap (λ g. head (tail (tail g))) p) i) (inj_expr a2 b2 (ap (λ g. tail (tail (tail g))) p) i)
  inj_expr (choose a0 a1 a2) (cast b0 b1) p = absurd (differ 4 5 (ap tag p) (omega arith))
  inj_expr (cast a0 a1) (lit b0 b1) p = absurd (differ 5 0 (ap tag p) (omega arith))
  inj_expr (cast a0 a1) (read b0) p = absurd (differ 5 1 (ap tag p) (omega arith))
  inj_expr (cast a0 a1) (un b0 b1 b2) p = absurd (differ 5 2 (ap tag p) (omega arith))
  inj_expr (cast a0 a1) (bin b0 b1 b2 b3) p = absurd (differ 5 3 (ap tag p) (omega arith))
  inj_expr (cast a0 a1) (choose b0 b1 b2) p = absurd (differ 5 4 (ap tag p) (omega arith))
  inj_expr (cast a0 a1) (cast b0 b1) p = λ i. cast (scalars.the_row.coded.inj a0 b0 (ap (λ g. head (tail g)) p) i) (inj_expr a1 b1 (ap (λ g. tail (tail g)) p) i)

  pub inj_place : (x y : Place) → code_place x ≡ code_place y → x ≡ y
  inj_place (place a0 a1) (place b0 b1) p = λ i. place (roots.the_row.coded.inj a0 b0 (ap (λ g. head (tail g)) p) i) (inj_steps a1 b1 (ap (λ g. tail (tail g)) p) i)

  pub inj_steps : (x y : Steps) → code_steps x ≡ code_steps y → x ≡ y
  inj_steps no_steps no_steps p = refl
  inj_steps no_steps (field b0 b1) p = absurd (differ 0 1 (ap tag p) (omega arith))
  inj_steps no_steps (at b0 b1) p = absurd (differ 0 2 (ap tag p) (omega arith))
  inj_steps (field a0 a1) no_steps p = absurd (differ 1 0 (ap tag p) (omega arith))
  inj_steps (field a0 a1) (field b0 b1) p = λ i. field (coded_ℕ.inj a0 b0 (ap (λ g. head (tail g)) p) i) (inj_steps a1 b1 (ap (λ g. tail (tail g)) p) i)
  inj_steps (field a0 a1) (at b0 b1) p = absurd (differ 1 2 (ap tag p) (omega arith))
  inj_steps (at a0 a1) no_steps p = absurd (differ 2 0 (ap tag p) (omega arith))
  inj_steps (at a0 a1) (field b0 b1) p = absurd (differ 2 1 (ap tag p) (omega arith))
  inj_steps (at a0 a1) (at b0 b1) p = λ i. at (inj_expr a0 b0 (ap (λ g. head (tail g)) p) i) (inj_steps a1 b1 (ap (λ g. tail (tail g)) p) i)

abbrev pub coded_expr : Coded Expr
coded_expr = record { code = code_expr; inj = inj_expr }

abbrev pub coded_place : Coded Place
coded_place = record { code = code_place; inj = inj_place }

abbrev pub coded_steps : Coded Steps
coded_steps = record { code = code_steps; inj = inj_steps }

abbrev mutual
  pub code_stmt : Stmt → Gv
  code_stmt (bind a0 a1) = gcons (gnum 0) (gcons (coded_ℕ.code a0) (coded_expr.code a1))
  code_stmt (local a0) = gcons (gnum 1) (coded_ℕ.code a0)
  code_stmt (set a0 a1) = gcons (gnum 2) (gcons (coded_place.code a0) (coded_expr.code a1))
  code_stmt (copy a0 a1) = gcons (gnum 3) (gcons (coded_place.code a0) (coded_place.code a1))
  code_stmt (branch a0 a1 a2) = gcons (gnum 4) (gcons (coded_expr.code a0) (gcons (code_stmts a1) (code_stmts a2)))
  code_stmt (loop a0 a1 a2) = gcons (gnum 5) (gcons (coded_ℕ.code a0) (gcons (coded_ℕ.code a1) (code_stmts a2)))
  code_stmt (emit a0 a1) = gcons (gnum 6) (gcons (coded_ℕ.code a0) (coded_expr.code a1))

  pub code_stmts : Stmts → Gv
  code_stmts no_stmts = gnum 0
  code_stmts (stmt a0 a1) = gcons (gnum 1) (gcons (code_stmt a0) (code_stmts a1))

mutual
  pub inj_stmt : (x y : Stmt) → code_stmt x ≡ code_stmt y → x ≡ y
  inj_stmt (bind a0 a1) (bind b0 b1) p = λ i. bind (coded_ℕ.inj a0 b0 (ap (λ g. head (tail g)) p) i) (coded_expr.inj a1 b1 (ap (λ g. tail (tail g)) p) i)
  inj_stmt (bind a0 a1) (local b0) p = absurd (differ 0 1 (ap tag p) (omega arith))
  inj_stmt (bind a0 a1) (set b0 b1) p = absurd (differ 0 2 (ap tag p) (omega arith))
  inj_stmt (bind a0 a1) (copy b0 b1) p = absurd (differ 0 3 (ap tag p) (omega arith))
  inj_stmt (bind a0 a1) (branch b0 b1 b2) p = absurd (differ 0 4 (ap tag p) (omega arith))
  inj_stmt (bind a0 a1) (loop b0 b1 b2) p = absurd (differ 0 5 (ap tag p) (omega arith))
  inj_stmt (bind a0 a1) (emit b0 b1) p = absurd (differ 0 6 (ap tag p) (omega arith))
  inj_stmt (local a0) (bind b0 b1) p = absurd (differ 1 0 (ap tag p) (omega arith))
  inj_stmt (local a0) (local b0) p = λ i. local (coded_ℕ.inj a0 b0 (ap (λ g. tail g) p) i)
  inj_stmt (local a0) (set b0 b1) p = absurd (differ 1 2 (ap tag p) (omega arith))
  inj_stmt (local a0) (copy b0 b1) p = absurd (differ 1 3 (ap tag p) (omega arith))
  inj_stmt (local a0) (branch b0 b1 b2) p = absurd (differ 1 4 (ap tag p) (omega arith))
  inj_stmt (local a0) (loop b0 b1 b2) p = absurd (differ 1 5 (ap tag p) (omega arith))
  inj_stmt (local a0) (emit b0 b1) p = absurd (differ 1 6 (ap tag p) (omega arith))
  inj_stmt (set a0 a1) (bind b0 b1) p = absurd (differ 2 0 (ap tag p) (omega arith))
  inj_stmt (set a0 a1) (local b0) p = absurd (differ 2 1 (ap tag p) (omega arith))
  inj_stmt (set a0 a1) (set b0 b1) p = λ i. set (coded_place.inj a0 b0 (ap (λ g. head (tail g)) p) i) (coded_expr.inj a1 b1 (ap (λ g. tail (tail g)) p) i)
  inj_stmt (set a0 a1) (copy b0 b1) p = absurd (differ 2 3 (ap tag p) (omega arith))
  inj_stmt (set a0 a1) (branch b0 b1 b2) p = absurd (differ 2 4 (ap tag p) (omega arith))
  inj_stmt (set a0 a1) (loop b0 b1 b2) p = absurd (differ 2 5 (ap tag p) (omega arith))
  inj_stmt (set a0 a1) (emit b0 b1) p = absurd (differ 2 6 (ap tag p) (omega arith))
  inj_stmt (copy a0 a1) (bind b0 b1) p = absurd (differ 3 0 (ap tag p) (omega arith))
  inj_stmt (copy a0 a1) (local b0) p = absurd (differ 3 1 (ap tag p) (omega arith))
  inj_stmt (copy a0 a1) (set b0 b1) p = absurd (differ 3 2 (ap tag p) (omega arith))
  inj_stmt (copy a0 a1) (copy b0 b1) p = λ i. copy (coded_place.inj a0 b0 (ap (λ g. head (tail g)) p) i) (coded_place.inj a1 b1 (ap (λ g. tail (tail g)) p) i)
  inj_stmt (copy a0 a1) (branch b0 b1 b2) p = absurd (differ 3 4 (ap tag p) (omega arith))
  inj_stmt (copy a0 a1) (loop b0 b1 b2) p = absurd (differ 3 5 (ap tag p) (omega arith))
  inj_stmt (copy a0 a1) (emit b0 b1) p = absurd (differ 3 6 (ap tag p) (omega arith))
  inj_stmt (branch a0 a1 a2) (bind b0 b1) p = absurd (differ 4 0 (ap tag p) (omega arith))
  inj_stmt (branch a0 a1 a2) (local b0) p = absurd (differ 4 1 (ap tag p) (omega arith))
  inj_stmt (branch a0 a1 a2) (set b0 b1) p = absurd (differ 4 2 (ap tag p) (omega arith))
  inj_stmt (branch a0 a1 a2) (copy b0 b1) p = absurd (differ 4 3 (ap tag p) (omega arith))
  inj_stmt (branch a0 a1 a2) (branch b0 b1 b2) p = λ i. branch (coded_expr.inj a0 b0 (ap (λ g. head (tail g)) p) i) (inj_stmts a1 b1 (ap (λ g. head (tail (tail g))) p) i) (inj_stmts a2 b2 (ap (λ g. tail (tail (tail g))) p) i)
  inj_stmt (branch a0 a1 a2) (loop b0 b1 b2) p = absurd (differ 4 5 (ap tag p) (omega arith))
  inj_stmt (branch a0 a1 a2) (emit b0 b1) p = absurd (differ 4 6 (ap tag p) (omega arith))
  inj_stmt (loop a0 a1 a2) (bind b0 b1) p = absurd (differ 5 0 (ap tag p) (omega arith))
  inj_stmt (loop a0 a1 a2) (local b0) p = absurd (differ 5 1 (ap tag p) (omega arith))
  inj_stmt (loop a0 a1 a2) (set b0 b1) p = absurd (differ 5 2 (ap tag p) (omega arith))
  inj_stmt (loop a0 a1 a2) (copy b0 b1) p = absurd (differ 5 3 (ap tag p) (omega arith))
  inj_stmt (loop a0 a1 a2) (branch b0 b1 b2) p = absurd (differ 5 4 (ap tag p) (omega arith))
  inj_stmt (loop a0 a1 a2) (loop b0 b1 b2) p = λ i. loop (coded_ℕ.inj a0 b0 (ap (λ g. head (tail g)) p) i) (coded_ℕ.inj a1 b1 (ap (λ g. head (tail (tail g))) p) i) (inj_stmts a2 b2 (ap (λ g. tail (tail (tail g))) p) i)
  inj_stmt (loop a0 a1 a2) (emit b0 b1) p = absurd (differ 5 6 (ap tag p) (omega arith))
  inj_stmt (emit a0 a1) (bind b0 b1) p = absurd (differ 6 0 (ap tag p) (omega arith))
  inj_stmt (emit a0 a1) (local b0) p = absurd (differ 6 1 (ap tag p) (omega arith))
  inj_stmt (emit a0 a1) (set b0 b1) p = absurd (differ 6 2 (ap tag p) (omega arith))
  inj_stmt (emit a0 a1) (copy b0 b1) p = absurd (differ 6 3 (ap tag p) (omega arith))
  inj_stmt (emit a0 a1) (branch b0 b1 b2) p = absurd (differ 6 4 (ap tag p) (omega arith))
  inj_stmt (emit a0 a1) (loop b0 b1 b2) p = absurd (differ 6 5 (ap tag p) (omega arith))
  inj_stmt (emit a0 a1) (emit b0 b1) p = λ i. emit (coded_ℕ.inj a0 b0 (ap (λ g. head (tail g)) p) i) (coded_expr.inj a1 b1 (ap (λ g. tail (tail g)) p) i)

  pub inj_stmts : (x y : Stmts) → code_stmts x ≡ code_stmts y → x ≡ y
  inj_stmts no_stmts no_stmts p = refl
  inj_stmts no_stmts (stmt b0 b1) p = absurd (differ 0 1 (ap tag p) (omega arith))
  inj_stmts (stmt a0 a1) no_stmts p = absurd (differ 1 0 (ap tag p) (omega arith))
  inj_stmts (stmt a0 a1) (stmt b0 b1) p = λ i. stmt (inj_stmt a0 b0 (ap (λ g. head (tail g)) p) i) (inj_stmts a1 b1 (ap (λ g. tail (tail g)) p) i)

abbrev pub coded_stmt : Coded Stmt
coded_stmt = record { code = code_stmt; inj = inj_stmt }

abbrev pub coded_stmts : Coded Stmts
coded_stmts = record { code = code_stmts; inj = inj_stmts }

abbrev pub coded_source : Coded Source
coded_source =
    code_by (Name × (SourceKind × (ℕ × (Ty × (Option ℕ))))) (coded× (coded_list coded_ℕ) (coded× kinds.the_row.coded (coded× coded_ℕ (coded× coded_ty (coded_option coded_ℕ)))))
    (λ r. (r.name, (r.kind, (r.priority, (r.message, r.depth)))))
    (λ p. record { name = p.0; kind = p.1.0; priority = p.1.1.0; message = p.1.1.1.0; depth = p.1.1.1.1 })
    (λ _. refl)

abbrev pub coded_channel : Coded Channel
coded_channel =
    code_by (Name × (Ty)) (coded× (coded_list coded_ℕ) (coded_ty))
    (λ r. (r.name, r.message))
    (λ p. record { name = p.0; message = p.1 })
    (λ _. refl)

abbrev pub coded_output : Coded Output
coded_output =
    code_by (Name × (ℕ)) (coded× (coded_list coded_ℕ) (coded_ℕ))
    (λ r. (r.name, r.channel))
    (λ p. record { name = p.0; channel = p.1 })
    (λ _. refl)

abbrev pub coded_monitor : Coded Monitor
coded_monitor =
    code_by (Name × (Fields)) (coded× (coded_list coded_ℕ) (coded_list (coded× (coded_list coded_ℕ) coded_ty)))
    (λ r. (r.name, r.states))
    (λ p. record { name = p.0; states = p.1 })
    (λ _. refl)

abbrev pub coded_emitter : Coded Emitter
coded_emitter =
    code_by (Name × (ℕ × (ℕ))) (coded× (coded_list coded_ℕ) (coded× coded_ℕ (coded_ℕ)))
    (λ r. (r.name, (r.channel, r.bound)))
    (λ p. record { name = p.0; channel = p.1.0; bound = p.1.1 })
    (λ _. refl)

abbrev pub coded_body : Coded Body
coded_body =
    code_by (Name × (Fields × (Stmts))) (coded× (coded_list coded_ℕ) (coded× (coded_list (coded× (coded_list coded_ℕ) coded_ty)) (coded_stmts)))
    (λ r. (r.param, (r.binders, r.stmts)))
    (λ p. record { param = p.0; binders = p.1.0; stmts = p.1.1 })
    (λ _. refl)

abbrev pub coded_handler : Coded Handler
coded_handler =
    code_by (Name × (ℕ × (On × (List Emitter × (List Body))))) (coded× (coded_list coded_ℕ) (coded× coded_ℕ (coded× ons.the_row.coded (coded× (coded_list coded_emitter) (coded_list coded_body)))))
    (λ r. (r.name, (r.monitor, (r.on, (r.emitters, r.callbacks)))))
    (λ p. record { name = p.0; monitor = p.1.0; on = p.1.1.0; emitters = p.1.1.1.0; callbacks = p.1.1.1.1 })
    (λ _. refl)

abbrev pub coded_arch : Coded Arch
coded_arch =
    code_by (ℕ × (Name × (Records × (List Name × (List Source × (List Channel × (List Output × (List Monitor × (List Handler × (List Listener)))))))))) (coded× coded_ℕ (coded× (coded_list coded_ℕ) (coded× (coded_list (coded_list (coded× (coded_list coded_ℕ) coded_ty))) (coded× (coded_list (coded_list coded_ℕ)) (coded× (coded_list coded_source) (coded× (coded_list coded_channel) (coded× (coded_list coded_output) (coded× (coded_list coded_monitor) (coded× (coded_list coded_handler) (coded_list listeners.the_row.coded))))))))))
    (λ r. (r.version, (r.name, (r.records, (r.record_names, (r.sources, (r.channels, (r.outputs, (r.monitors, (r.handlers, r.listeners))))))))))
    (λ p. record { version = p.0; name = p.1.0; records = p.1.1.0; record_names = p.1.1.1.0; sources = p.1.1.1.1.0; channels = p.1.1.1.1.1.0; outputs = p.1.1.1.1.1.1.0; monitors = p.1.1.1.1.1.1.1.0; handlers = p.1.1.1.1.1.1.1.1.0; listeners = p.1.1.1.1.1.1.1.1.1 })
    (λ _. refl)
