-- The sites of an expression or place by those of its parts, and what is made of it by what is made of these.
use Rattle.std.proofs.Common.{◌≡◌, ℕ, List, ◌++◌, None, Result, sym, ap, ◌∙◌}
use Rattle.std.specs.Result.{IsErrAnd, IfErr}
use Rattle.tower_types.specs.declared.scalar.BinOp.{BinOp}
use Rattle.tower_syntax.specs.declared.named.Target.{Target}
use Rattle.tower_syntax.specs.RawTree.{bin, choose, cast, index}
use Rattle.tower_syntax.specs.RawView.{raw_type_of, raw_place_of, raw_expr_of}
use Rattle.tower_syntax.specs.NamedView.{named_type_of, named_place_of, named_expr_of}
use Rattle.tower_syntax.specs.declared.raw.RawType.{RawType as TypeValue}
use Rattle.tower_syntax.specs.declared.raw.RawPlace.{RawPlace as PlaceValue}
use Rattle.tower_syntax.specs.declared.raw.RawPlace.TheVariants as place
use Rattle.tower_syntax.specs.declared.raw.RawExpr.{RawExpr as ExprValue}
use Rattle.tower_syntax.specs.declared.raw.RawExpr.TheVariants as expr
use Rattle.tower_syntax.specs.declared.named.NamedType.{NamedType as NamedTypeValue}
use Rattle.tower_syntax.specs.declared.named.NamedPlace.{NamedPlace as NamedPlaceValue}
use Rattle.tower_syntax.specs.declared.named.NamedPlace.TheVariants as nplace
use Rattle.tower_syntax.specs.declared.named.NamedExpr.{NamedExpr as NamedExprValue}
use Rattle.tower_syntax.specs.declared.named.NamedExpr.TheVariants as nexpr
use Rattle.tower_syntax.proofs.RawViews.{raw_expr_of-Bin, raw_expr_of-Cond, raw_expr_of-Cast, raw_place_of-At}
use Rattle.tower_syntax.proofs.NamedViews.{named_expr_of-Bin, named_expr_of-Cond, named_expr_of-Cast, named_place_of-At}
use Rattle.arch_names.specs.declared.names.Thing.{Thing}
use Rattle.arch_names.specs.declared.fault.NameFault.{NameFault}
use Rattle.arch_names.specs.Names.{Find}
use Rattle.arch_names.specs.Site.{Site}
use Rattle.arch_names.specs.Sites.{type_sites, place_sites, expr_sites}
use Rattle.arch_names.specs.Linked.{linked_type, linked_place, linked_expr}
use Rattle.arch_names.specs.Walk.{first, meant, IsMade, IsFault}
use Rattle.arch_names.proofs.First.{clean_both, fault_left, fault_right, exit_first, exit_second}

module _ (file : Find Thing) (known : Find Target) where
  abbrev pub E : ExprValue → List Site
  E e = expr_sites file known (raw_expr_of e)

  abbrev pub P : PlaceValue → List Site
  P p = place_sites file known (raw_place_of p)

  abbrev pub T : TypeValue → List Site
  T t = type_sites file None (raw_type_of t)

  module _ (e : ExprValue) (at : ℕ) (op : BinOp) (a b x y : ExprValue) (is : e ≡ expr.Bin at op a b) (p : x ≡ a) (q : y ≡ b) where
    bin_is : raw_expr_of e ≡ bin at op (raw_expr_of x) (raw_expr_of y)
    bin_is = ap raw_expr_of is ∙ raw_expr_of-Bin at op a b ∙ (λ i. bin at op (raw_expr_of (sym p i)) (raw_expr_of (sym q i)))

    pub bin_sites : E e ≡ E x ++ E y
    bin_sites = ap (expr_sites file known) bin_is

    pub bin_first : {R : Type 0} (r : Result R NameFault) (f : NameFault) → IsErrAnd r (λ x. x ≡ f) → IsFault (E x) f → IfErr r (IsFault (E e))
    bin_first r f h k = exit_first r (E e) (E x) (E y) f h bin_sites k

    pub bin_second : {R : Type 0} (r : Result R NameFault) (f : NameFault) → IsErrAnd r (λ x. x ≡ f) → first (E x) ≡ None → IsFault (E y) f → IfErr r (IsFault (E e))
    bin_second r f h n k = exit_second r (E e) (E x) (E y) f h bin_sites n k

    pub bin_made : (m n : NamedExprValue) → IsMade (E x) named_expr_of (linked_expr meant file known (raw_expr_of x)) m → IsMade (E y) named_expr_of (linked_expr meant file known (raw_expr_of y)) n → IsMade (E e) named_expr_of (linked_expr meant file known (raw_expr_of e)) (nexpr.Bin at op m n)
    bin_made m n h k = (ap first bin_sites ∙ clean_both (E x) (E y) h.0 k.0, named_expr_of-Bin at op m n ∙ (λ i. bin at op (h.1 i) (k.1 i)) ∙ sym (ap (linked_expr meant file known) bin_is))

  module _ (e : ExprValue) (at : ℕ) (a b c x y z : ExprValue) (is : e ≡ expr.Cond at a b c) (p : x ≡ a) (q : y ≡ b) (r : z ≡ c) where
    choose_is : raw_expr_of e ≡ choose at (raw_expr_of x) (raw_expr_of y) (raw_expr_of z)
    choose_is = ap raw_expr_of is ∙ raw_expr_of-Cond at a b c ∙ (λ i. choose at (raw_expr_of (sym p i)) (raw_expr_of (sym q i)) (raw_expr_of (sym r i)))

    pub choose_sites : E e ≡ (E x ++ E y) ++ E z
    choose_sites = ap (expr_sites file known) choose_is

    pub choose_first : {R : Type 0} (r : Result R NameFault) (f : NameFault) → IsErrAnd r (λ x. x ≡ f) → IsFault (E x) f → IfErr r (IsFault (E e))
    choose_first r f h k = exit_first r (E e) (E x ++ E y) (E z) f h choose_sites (fault_left (E x) (E y) f k)

    pub choose_second : {R : Type 0} (r : Result R NameFault) (f : NameFault) → IsErrAnd r (λ x. x ≡ f) → first (E x) ≡ None → IsFault (E y) f → IfErr r (IsFault (E e))
    choose_second r f h n k = exit_first r (E e) (E x ++ E y) (E z) f h choose_sites (fault_right (E x) (E y) f n k)

    pub choose_third : {R : Type 0} (r : Result R NameFault) (f : NameFault) → IsErrAnd r (λ x. x ≡ f) → first (E x) ≡ None → first (E y) ≡ None → IsFault (E z) f → IfErr r (IsFault (E e))
    choose_third r f h n m k = exit_second r (E e) (E x ++ E y) (E z) f h choose_sites (clean_both (E x) (E y) n m) k

    pub choose_made : (m n o : NamedExprValue) → IsMade (E x) named_expr_of (linked_expr meant file known (raw_expr_of x)) m → IsMade (E y) named_expr_of (linked_expr meant file known (raw_expr_of y)) n → IsMade (E z) named_expr_of (linked_expr meant file known (raw_expr_of z)) o → IsMade (E e) named_expr_of (linked_expr meant file known (raw_expr_of e)) (nexpr.Cond at m n o)
    choose_made m n o h k l = (ap first choose_sites ∙ clean_both (E x ++ E y) (E z) (clean_both (E x) (E y) h.0 k.0) l.0, named_expr_of-Cond at m n o ∙ (λ i. choose at (h.1 i) (k.1 i) (l.1 i)) ∙ sym (ap (linked_expr meant file known) choose_is))

  module _ (e : ExprValue) (at : ℕ) (t u : TypeValue) (a x : ExprValue) (is : e ≡ expr.Cast at t a) (o : u ≡ t) (p : x ≡ a) where
    cast_is : raw_expr_of e ≡ cast at (raw_type_of u) (raw_expr_of x)
    cast_is = ap raw_expr_of is ∙ raw_expr_of-Cast at t a ∙ (λ i. cast at (raw_type_of (sym o i)) (raw_expr_of (sym p i)))

    pub cast_sites : E e ≡ T u ++ E x
    cast_sites = ap (expr_sites file known) cast_is

    pub cast_first : {R : Type 0} (r : Result R NameFault) (f : NameFault) → IsErrAnd r (λ x. x ≡ f) → IsFault (T u) f → IfErr r (IsFault (E e))
    cast_first r f h k = exit_first r (E e) (T u) (E x) f h cast_sites k

    pub cast_second : {R : Type 0} (r : Result R NameFault) (f : NameFault) → IsErrAnd r (λ x. x ≡ f) → first (T u) ≡ None → IsFault (E x) f → IfErr r (IsFault (E e))
    cast_second r f h n k = exit_second r (E e) (T u) (E x) f h cast_sites n k

    pub cast_made : (v : NamedTypeValue) (m : NamedExprValue) → IsMade (T u) named_type_of (linked_type meant file None (raw_type_of u)) v → IsMade (E x) named_expr_of (linked_expr meant file known (raw_expr_of x)) m → IsMade (E e) named_expr_of (linked_expr meant file known (raw_expr_of e)) (nexpr.Cast at v m)
    cast_made v m h k = (ap first cast_sites ∙ clean_both (T u) (E x) h.0 k.0, named_expr_of-Cast at v m ∙ (λ i. cast at (h.1 i) (k.1 i)) ∙ sym (ap (linked_expr meant file known) cast_is))

  module _ (s : PlaceValue) (at : ℕ) (b : PlaceValue) (a : ExprValue) (w : PlaceValue) (x : ExprValue) (is : s ≡ place.At at b a) (o : w ≡ b) (p : x ≡ a) where
    index_is : raw_place_of s ≡ index at (raw_place_of w) (raw_expr_of x)
    index_is = ap raw_place_of is ∙ raw_place_of-At at b a ∙ (λ i. index at (raw_place_of (sym o i)) (raw_expr_of (sym p i)))

    pub index_sites : P s ≡ P w ++ E x
    index_sites = ap (place_sites file known) index_is

    pub index_first : {R : Type 0} (r : Result R NameFault) (f : NameFault) → IsErrAnd r (λ x. x ≡ f) → IsFault (P w) f → IfErr r (IsFault (P s))
    index_first r f h k = exit_first r (P s) (P w) (E x) f h index_sites k

    pub index_second : {R : Type 0} (r : Result R NameFault) (f : NameFault) → IsErrAnd r (λ x. x ≡ f) → first (P w) ≡ None → IsFault (E x) f → IfErr r (IsFault (P s))
    index_second r f h n k = exit_second r (P s) (P w) (E x) f h index_sites n k

    pub index_made : (v v' : NamedPlaceValue) (m m' : NamedExprValue) → v' ≡ v → m' ≡ m → IsMade (P w) named_place_of (linked_place meant file known (raw_place_of w)) v → IsMade (E x) named_expr_of (linked_expr meant file known (raw_expr_of x)) m → IsMade (P s) named_place_of (linked_place meant file known (raw_place_of s)) (nplace.At at v' m')
    index_made v v' m m' i j h k = (ap first index_sites ∙ clean_both (P w) (E x) h.0 k.0, (λ l. named_place_of (nplace.At at (i l) (j l))) ∙ named_place_of-At at v m ∙ (λ l. index at (h.1 l) (k.1 l)) ∙ sym (ap (linked_place meant file known) index_is))
