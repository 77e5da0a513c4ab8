-- The numbers of typed expressions.
use Rattle.std.proofs.Common.{◌≡◌, ◌∙◌, ℕ, zero, suc, ◌<◌, ℤ, pos, negsuc, Bool, true, false, cond, IsTrue, refl, ap, sym, subst, arith, unsigned_abs}
use Rattle.std.proofs.lemmas.Bool.Decides.{nat_tests}
use Rattle.tower_types.specs.declared.scalar.Scalar.{Scalar}
use Rattle.tower_types.specs.declared.scalar.Scalar.TheVariants as scalar
use Rattle.tower_types.specs.declared.scalar.BinOp.{BinOp}
use Rattle.tower_types.specs.declared.scalar.UnOp.{UnOp}
use Rattle.tower_types.specs.Ty.{one}
use Rattle.tower_types.specs.Value.{Value, word, num, fits, fits_scalar, has_numbers}
use Rattle.tower_types.specs.Arithmetic.{applies, applies_one, binary_of, unary_of, is_number, wrap_to, is_true}
use Rattle.tower_syntax.specs.Tree.{Expr, lit, read, un, bin, choose, cast, Place}
use Rattle.tower_syntax.specs.Typed.{IsProperScalar, HasScalar}
use Rattle.tower_meaning.specs.Body.{Environment, expr_value, place_value}
use Rattle.tower_meaning.specs.Fitting.{IsNumber, IsPlace, IsValue}
use Rattle.tower_meaning.proofs.Fitting.{num_fits, number_fits}
use Rattle.tower_meaning.proofs.Values.{expr_fits}
use Rattle.tower_meaning.proofs.KeepsTypes.{operations}
use Rattle.atomic_state.specs.Places.{IsNoRead}

-- the value of a number is one
pub fits_own : (env : Environment) (e : Expr) (h : IsNumber env e) → fits_scalar h.scalar (num (expr_value env e)) ≡ true
fits_own env e h = num_fits h.scalar (expr_value env e) (expr_fits operations h.scope h.names env h.values_fit e h.scalar h.typed)

pub is_word : (env : Environment) (e : Expr) → IsNumber env e → expr_value env e ≡ word (num (expr_value env e))
is_word env e h = number_fits h.scalar (expr_value env e) (expr_fits operations h.scope h.names env h.values_fit e h.scalar h.typed)

-- the number is that of the expression, if this is one
abbrev pub Gives : Environment → Expr → ℤ → Type 0
Gives env e n = IsNumber env e → n ≡ num (expr_value env e)

abbrev pub sub : (env : Environment) (e a : Expr) (h : IsNumber env e) (t : Scalar) → HasScalar h.scope h.names a t → IsNumber env a
sub env e a h t typed = record { scope = h.scope; names = h.names; scalar = t; values_fit = h.values_fit; typed = typed }

un_gives : (env : Environment) (op : UnOp) (t : Scalar) (a : Expr) (n r : ℤ) → Gives env a n → (IsTrue (applies_one op t) → IsTrue (fits_scalar t n) → r ≡ unary_of op t n) → Gives env (un op t a) r
un_gives env op t a n r f g h =
    let s : IsNumber env a = sub env (un op t a) a h t h.typed.2 in
    let is = f s in
    g h.typed.0 (subst (λ m. fits_scalar t m ≡ true) (sym is) (fits_own env a s)) ∙ ap (unary_of op t) is

bin_gives : (env : Environment) (op : BinOp) (t : Scalar) (a b : Expr) (m n r : ℤ) → Gives env a m → Gives env b n
    → (IsTrue (applies op t) → IsTrue (fits_scalar t m) → IsTrue (fits_scalar t n) → r ≡ binary_of op t m n) → Gives env (bin op t a b) r
bin_gives env op t a b m n r f f' g h =
    let s : IsNumber env a = sub env (bin op t a b) a h t h.typed.2 in
    let s' : IsNumber env b = sub env (bin op t a b) b h t h.typed.3 in
    let is = f s in
    let is' = f' s' in
    g h.typed.0 (subst (λ m. fits_scalar t m ≡ true) (sym is) (fits_own env a s)) (subst (λ m. fits_scalar t m ≡ true) (sym is') (fits_own env b s'))
    ∙ ap (λ m. binary_of op t m n) is ∙ ap (binary_of op t (num (expr_value env a))) is'

has_some : (t : Scalar) → IsProperScalar t → has_numbers t ≡ true
has_some scalar.Bool h = refl
has_some scalar.U8 h = refl
has_some scalar.U16 h = refl
has_some scalar.U32 h = refl
has_some scalar.U64 h = refl
has_some scalar.I8 h = refl
has_some scalar.I16 h = refl
has_some scalar.I32 h = refl
has_some scalar.I64 h = refl
has_some (scalar.Ix n) h = let lt : 0 < n = h.0 in grind (arith, nat_tests)

cast_gives : (env : Environment) (t : Scalar) (a : Expr) (n r : ℤ) → Gives env a n → (IsTrue (is_number t) → IsTrue (has_numbers t) → r ≡ wrap_to t n) → Gives env (cast t a) r
cast_gives env t a n r f g h =
    let s : IsNumber env a = sub env (cast t a) a h h.typed.3.0 h.typed.3.2 in
    g h.typed.0 (has_some t h.typed.1) ∙ ap (wrap_to t) (f s)

read_gives : (env : Environment) (p : Place) (v : Value) (r : ℤ) → (IsPlace env p → v ≡ place_value env p) → r ≡ num v → Gives env (read p) r
read_gives env p v r f e h =
    let s : IsPlace env p = record { scope = h.scope; names = h.names; shape = one h.scalar; values_fit = h.values_fit; typed = h.typed } in
    e ∙ ap num (f s)

pub not_zero : (n : ℤ) → (n ≡ pos 0 → ⊥) → is_true n ≡ true
not_zero (pos zero) h = absurd (h refl)
not_zero (pos (suc n)) h = refl
not_zero (negsuc n) h = refl

either_num : (b : Bool) (x y : Value) → num (cond b x y) ≡ cond b (num x) (num y)
either_num true x y = refl
either_num false x y = refl

first_gives : (env : Environment) (c a b : Expr) (n r : ℤ) → Gives env c n → Gives env a r → (n ≡ pos 0 → ⊥) → Gives env (choose c a b) r
first_gives env c a b n r f g t h =
    let is = f (sub env (choose c a b) c h scalar.Bool h.typed.0) in
    let yes' : is_true (num (expr_value env c)) ≡ true = ap is_true (sym is) ∙ not_zero n t in
    g (sub env (choose c a b) a h h.scalar h.typed.1) ∙ sym (ap (λ k. num (cond k (expr_value env a) (expr_value env b))) yes')

second_gives : (env : Environment) (c a b : Expr) (n r : ℤ) → Gives env c n → Gives env b r → n ≡ pos 0 → Gives env (choose c a b) r
second_gives env c a b n r f g t h =
    let is = f (sub env (choose c a b) c h scalar.Bool h.typed.0) in
    let no' : is_true (num (expr_value env c)) ≡ false = ap is_true (sym is ∙ t) in
    g (sub env (choose c a b) b h h.scalar h.typed.2) ∙ sym (ap (λ k. num (cond k (expr_value env a) (expr_value env b))) no')

-- the same of an expression that is known to be this one
pub by_un : (env : Environment) (e : Expr) (op : UnOp) (t : Scalar) (a : Expr) (n r : ℤ) → e ≡ un op t a → Gives env a n
    → (IsTrue (applies_one op t) → IsTrue (fits_scalar t n) → r ≡ unary_of op t n) → Gives env e r
by_un env e op t a n r is f g = subst (λ x. Gives env x r) (sym is) (un_gives env op t a n r f g)

pub by_bin : (env : Environment) (e : Expr) (op : BinOp) (t : Scalar) (a b : Expr) (m n r : ℤ) → e ≡ bin op t a b → Gives env a m → Gives env b n
    → (IsTrue (applies op t) → IsTrue (fits_scalar t m) → IsTrue (fits_scalar t n) → r ≡ binary_of op t m n) → Gives env e r
by_bin env e op t a b m n r is f f' g = subst (λ x. Gives env x r) (sym is) (bin_gives env op t a b m n r f f' g)

pub by_cast : (env : Environment) (e : Expr) (t : Scalar) (a : Expr) (n r : ℤ) → e ≡ cast t a → Gives env a n
    → (IsTrue (is_number t) → IsTrue (has_numbers t) → r ≡ wrap_to t n) → Gives env e r
by_cast env e t a n r is f g = subst (λ x. Gives env x r) (sym is) (cast_gives env t a n r f g)

pub by_read : (env : Environment) (e : Expr) (p : Place) (v : Value) (r : ℤ) → e ≡ read p → (IsPlace env p → v ≡ place_value env p) → r ≡ num v → Gives env e r
by_read env e p v r is f g = subst (λ x. Gives env x r) (sym is) (read_gives env p v r f g)

pub by_lit : (env : Environment) (e : Expr) (t : Scalar) (n r : ℤ) → e ≡ lit t n → r ≡ n → Gives env e r
by_lit env e t n r is same = subst (λ x. Gives env x r) (sym is) (λ h. same)

pub by_first : (env : Environment) (e c a b : Expr) (n r : ℤ) → e ≡ choose c a b → Gives env c n → Gives env a r → (n ≡ pos 0 → ⊥) → Gives env e r
by_first env e c a b n r is f g t = subst (λ x. Gives env x r) (sym is) (first_gives env c a b n r f g t)

pub by_second : (env : Environment) (e c a b : Expr) (n r : ℤ) → e ≡ choose c a b → Gives env c n → Gives env b r → n ≡ pos 0 → Gives env e r
by_second env e c a b n r is f g t = subst (λ x. Gives env x r) (sym is) (second_gives env c a b n r f g t)

-- what is emitted and is no place is a number
number_sent : (env : Environment) (e : Expr) → IsNoRead e → IsValue env e → IsNumber env e
number_sent env (lit t n) w h = record { scope = h.scope; names = h.names; scalar = h.typed.0; values_fit = h.values_fit; typed = h.typed.2 }
number_sent env (read p) w h = absurd w
number_sent env (un op t a) w h = record { scope = h.scope; names = h.names; scalar = h.typed.0; values_fit = h.values_fit; typed = h.typed.2 }
number_sent env (bin op t a b) w h = record { scope = h.scope; names = h.names; scalar = h.typed.0; values_fit = h.values_fit; typed = h.typed.2 }
number_sent env (choose c a b) w h = record { scope = h.scope; names = h.names; scalar = h.typed.0; values_fit = h.values_fit; typed = h.typed.2 }
number_sent env (cast t a) w h = record { scope = h.scope; names = h.names; scalar = h.typed.0; values_fit = h.values_fit; typed = h.typed.2 }

pub sent_number : (env : Environment) (e : Expr) (n : ℤ) (v : Value) → IsNoRead e → Gives env e n → v ≡ word n → IsValue env e → v ≡ expr_value env e
sent_number env e n v w f is h =
    let s = number_sent env e w h in
    is ∙ ap word (f s) ∙ sym (is_word env e s)

pub sent_place : (env : Environment) (e : Expr) (p : Place) (v : Value) → e ≡ read p → (IsPlace env p → v ≡ place_value env p) → IsValue env e → v ≡ expr_value env e
sent_place env e p v is f = subst (λ x. IsValue env x → v ≡ expr_value env x) (sym is)
    (λ h. f (record { scope = h.scope; names = h.names; shape = h.shape; values_fit = h.values_fit; typed = h.typed }))
