-- Forms that are read back where they are printed: a row, by its children.
use Rattle.std.proofs.Common.{◌≡◌, ℕ, suc, ◌+◌, ◌≤◌, length, List, [], ◌∷◌, Bool, true, false, cond, ◌&&◌, ◌||◌, nat_le, Option, Some, None, map, refl, ap, ◌∙◌, subst, sym, arith}
use Rattle.std.specs.List.{All, filter_map, cons_option}
use Rattle.std.proofs.lemmas.Bool.{le-leb}
use Rattle.std.proofs.lemmas.List.{get_or_past}
use Rattle.std.proofs.lemmas.List.Elements.{All-head, All-tail}
use Rattle.tower_sexp.specs.Trees.{atom as leaf, Trees, no_trees, tree}
use Rattle.tower_syntax.specs.Form.{Form, forms, row, text}
use Rattle.tower_reader.specs.declared.table.Place.{Place}
use Rattle.tower_reader.specs.declared.table.Row.{Row}
use Rattle.tower_reader.specs.Table.{rule, row_of, or_nowhere, place_at, has_more, count_fits}
use Rattle.tower_reader.specs.Part.{Part, build}
use Rattle.tower_reader.specs.Spelled.{count, fitting, Reads, has_row, ReadsAll, no_more, one_more}
use Rattle.tower_reader.proofs.Lines.{tree_at, trees_spaced}

-- A form that is printed at an offset, and read as a part of which A holds.
pub record Back (p : Place) (n : ℕ) (f : Form) (A : Part → Type 0) : Type 0 where
  pub part : Part
  pub reads : Reads p (tree_at n f) part
  pub alike : A part

-- the children of a row from the i-th on
pub record BackAll (r : Row) (i n : ℕ) (fs : List Form) (A : List Part → Type 0) : Type 0 where
  pub parts : List Part
  pub reads : ReadsAll r i (trees_spaced n (forms fs)) parts
  pub alike : A parts

-- wherever it is printed
abbrev pub Backs : Place → Form → (Part → Type 0) → Type 0
Backs p f A = (n : ℕ) → Back p n f A

abbrev pub BacksAll : Row → ℕ → List Form → (List Part → Type 0) → Type 0
BacksAll r i fs A = (n : ℕ) → BackAll r i n fs A

-- Rows with one, two, three and four children.

pub one : (p : Place) (r : Row) (w : List ℕ) {f : Form} {A C : Part → Type 0} → fitting 1 (row_of p w) ≡ Some r → Backs (place_at r 0) f A → ((n : ℕ) (a : Part) → A a → C (build r n (a ∷ []))) → Backs p (row w (f ∷ [])) C
one p r w {f = f} e x made = λ n.
    let a = x (n + 1 + length w + 1) in
    record {
      part = build r n (a.part ∷ []);
      reads = has_row p n (leaf (n + 1) w) (tree _ no_trees) r (a.part ∷ []) e (one_more r 0 _ no_trees a.part [] a.reads (no_more r 1));
      alike = made n a.part a.alike;
    }

pub two : (p : Place) (r : Row) (w : List ℕ) {f g : Form} {A B C : Part → Type 0} → fitting 2 (row_of p w) ≡ Some r → Backs (place_at r 0) f A → Backs (place_at r 1) g B → ((n : ℕ) (a b : Part) → A a → B b → C (build r n (a ∷ b ∷ []))) → Backs p (row w (f ∷ g ∷ [])) C
two p r w {f = f} e x y made = λ n.
    let k : ℕ = n + 1 + length w + 1 in
    let a = x k in
    let b = y (k + length (text f) + 1) in
    record {
      part = build r n (a.part ∷ b.part ∷ []);
      reads = has_row p n (leaf (n + 1) w) _ r (a.part ∷ b.part ∷ []) e (one_more r 0 _ _ a.part _ a.reads (one_more r 1 _ no_trees b.part [] b.reads (no_more r 2)));
      alike = made n a.part b.part a.alike b.alike;
    }

pub three : (p : Place) (r : Row) (w : List ℕ) {f g h : Form} {A B C D : Part → Type 0} → fitting 3 (row_of p w) ≡ Some r → Backs (place_at r 0) f A → Backs (place_at r 1) g B → Backs (place_at r 2) h C → ((n : ℕ) (a b c : Part) → A a → B b → C c → D (build r n (a ∷ b ∷ c ∷ []))) → Backs p (row w (f ∷ g ∷ h ∷ [])) D
three p r w {f = f} {g = g} e x y z made = λ n.
    let k : ℕ = n + 1 + length w + 1 in
    let l : ℕ = k + length (text f) + 1 in
    let a = x k in
    let b = y l in
    let c = z (l + length (text g) + 1) in
    record {
      part = build r n (a.part ∷ b.part ∷ c.part ∷ []);
      reads = has_row p n (leaf (n + 1) w) _ r (a.part ∷ b.part ∷ c.part ∷ []) e (one_more r 0 _ _ a.part _ a.reads (one_more r 1 _ _ b.part _ b.reads (one_more r 2 _ no_trees c.part [] c.reads (no_more r 3))));
      alike = made n a.part b.part c.part a.alike b.alike c.alike;
    }

pub four : (p : Place) (r : Row) (w : List ℕ) {f g h j : Form} {A B C D E : Part → Type 0} → fitting 4 (row_of p w) ≡ Some r → Backs (place_at r 0) f A → Backs (place_at r 1) g B → Backs (place_at r 2) h C → Backs (place_at r 3) j D → ((n : ℕ) (a b c d : Part) → A a → B b → C c → D d → E (build r n (a ∷ b ∷ c ∷ d ∷ []))) → Backs p (row w (f ∷ g ∷ h ∷ j ∷ [])) E
four p r w {f = f} {g = g} {h = h} e x y z u made = λ n.
    let k : ℕ = n + 1 + length w + 1 in
    let l : ℕ = k + length (text f) + 1 in
    let m : ℕ = l + length (text g) + 1 in
    let a = x k in
    let b = y l in
    let c = z m in
    let d = u (m + length (text h) + 1) in
    record {
      part = build r n (a.part ∷ b.part ∷ c.part ∷ d.part ∷ []);
      reads = has_row p n (leaf (n + 1) w) _ r (a.part ∷ b.part ∷ c.part ∷ d.part ∷ []) e (one_more r 0 _ _ a.part _ a.reads (one_more r 1 _ _ b.part _ b.reads (one_more r 2 _ _ c.part _ c.reads (one_more r 3 _ no_trees d.part [] d.reads (no_more r 4)))));
      alike = made n a.part b.part c.part d.part a.alike b.alike c.alike d.alike;
    }

-- Rows with any number of more children.

-- a row with at least so many children, where those behind them stand at one place
pub record HasMore (r : Row) (least : ℕ) (p : Place) : Type 0 where
  pub places : length (rule r).places ≡ least
  pub more : (rule r).more ≡ Some p

enough : (k m : ℕ) (a b c : Bool) → nat_le k m ≡ a → k ≤ m → c ≡ true → a && (b || c) ≡ true
enough k m true true c e h g = refl
enough k m true false c e h g = g
enough k m false b c e h g = let t : nat_le k m ≡ true = le-leb k m h in cc

fits_more : (r : Row) (least m : ℕ) (p : Place) → HasMore r least p → least ≤ m → fitting m (Some r) ≡ Some r
fits_more r least m p h l =
    let k : length (rule r).places ≤ m = omega (arith, h.places) in
    let e : count_fits r m ≡ true = enough (length (rule r).places) m _ (nat_le m (length (rule r).places)) _ refl k (ap has_more h.more) in
    ap (λ b. cond b (Some r) None) e

fits : (p : Place) (w : List ℕ) (r : Row) (least m : ℕ) (q : Place) → row_of p w ≡ Some r → HasMore r least q → least ≤ m → fitting m (row_of p w) ≡ Some r
fits p w r least m q e h l = ap (fitting m) e ∙ fits_more r least m q h l

-- from a child on, all stand at one place
abbrev pub IsPlacedFrom : ℕ → Row → Place → Type 0
IsPlacedFrom i r p = (j : ℕ) → i ≤ j → place_at r j ≡ p

pub placed : {r : Row} {least : ℕ} {p : Place} → HasMore r least p → IsPlacedFrom least r p
placed {r = r} h j l = get_or_past (rule r).places j (or_nowhere (rule r).more) (omega (arith, h.places)) ∙ ap or_nowhere h.more

pub more : (p : Place) (r : Row) (w : List ℕ) {q : Place} {fs : List Form} {B : List Part → Type 0} {C : Part → Type 0} → row_of p w ≡ Some r → HasMore r 0 q → BacksAll r 0 fs B → ((n : ℕ) (bs : List Part) → B bs → C (build r n bs)) → Backs p (row w fs) C
more p r w {q = q} {fs = fs} e h xs made = λ n.
    let bs = xs (n + 1 + length w) in
    let ts : Trees = trees_spaced (n + 1 + length w) (forms fs) in
    record {
      part = build r n bs.parts;
      reads = has_row p n (leaf (n + 1) w) ts r bs.parts (fits p w r 0 (count ts) q e h (omega arith)) bs.reads;
      alike = made n bs.parts bs.alike;
    }

pub one_and_more : (p : Place) (r : Row) (w : List ℕ) {q : Place} {f : Form} {fs : List Form} {A C : Part → Type 0} {B : List Part → Type 0} → row_of p w ≡ Some r → HasMore r 1 q → Backs (place_at r 0) f A → BacksAll r 1 fs B → ((n : ℕ) (a : Part) (bs : List Part) → A a → B bs → C (build r n (a ∷ bs))) → Backs p (row w (f ∷ fs)) C
one_and_more p r w {q = q} {f = f} {fs = fs} e h x xs made = λ n.
    let k : ℕ = n + 1 + length w + 1 in
    let a = x k in
    let bs = xs (k + length (text f)) in
    let m : ℕ = count (trees_spaced (k + length (text f)) (forms fs)) in
    record {
      part = build r n (a.part ∷ bs.parts);
      reads = has_row p n (leaf (n + 1) w) _ r (a.part ∷ bs.parts) (fits p w r 1 (suc m) q e h (omega arith)) (one_more r 0 _ _ a.part _ a.reads bs.reads);
      alike = made n a.part bs.parts a.alike bs.alike;
    }

pub two_and_more : (p : Place) (r : Row) (w : List ℕ) {q : Place} {f g : Form} {fs : List Form} {A B D : Part → Type 0} {C : List Part → Type 0} → row_of p w ≡ Some r → HasMore r 2 q → Backs (place_at r 0) f A → Backs (place_at r 1) g B → BacksAll r 2 fs C → ((n : ℕ) (a b : Part) (cs : List Part) → A a → B b → C cs → D (build r n (a ∷ b ∷ cs))) → Backs p (row w (f ∷ g ∷ fs)) D
two_and_more p r w {q = q} {f = f} {g = g} {fs = fs} e h x y xs made = λ n.
    let k : ℕ = n + 1 + length w + 1 in
    let l : ℕ = k + length (text f) + 1 in
    let a = x k in
    let b = y l in
    let cs = xs (l + length (text g)) in
    let m : ℕ = count (trees_spaced (l + length (text g)) (forms fs)) in
    record {
      part = build r n (a.part ∷ b.part ∷ cs.parts);
      reads = has_row p n (leaf (n + 1) w) _ r (a.part ∷ b.part ∷ cs.parts) (fits p w r 2 (suc (suc m)) q e h (omega arith)) (one_more r 0 _ _ a.part _ a.reads (one_more r 1 _ _ b.part _ b.reads cs.reads));
      alike = made n a.part b.part cs.parts a.alike b.alike cs.alike;
    }

-- Children that are one list.

pub no_children : (r : Row) (i : ℕ) {A : List Part → Type 0} → A [] → BacksAll r i [] A
no_children r i a = λ n. record { parts = []; reads = no_more r i; alike = a }

pub child : (r : Row) (i : ℕ) (p : Place) {f : Form} {fs : List Form} {A : Part → Type 0} {B C : List Part → Type 0} → place_at r i ≡ p → Backs p f A → BacksAll r (i + 1) fs B → ((a : Part) (bs : List Part) → A a → B bs → C (a ∷ bs)) → BacksAll r i (f ∷ fs) C
child r i p {f = f} {fs = fs} e x xs made = λ n.
    let a = x (n + 1) in
    let bs = xs (n + 1 + length (text f)) in
    record {
      parts = a.part ∷ bs.parts;
      reads = one_more r i _ _ a.part bs.parts (subst (λ p. Reads p (tree_at (n + 1) f) a.part) (sym e) a.reads) bs.reads;
      alike = made a.part bs.parts a.alike bs.alike;
    }

abbrev pub map_option : {X : Type 0} → (X → X) → Option X → Option X
map_option f None = None
map_option f (Some x) = Some (f x)

pub option_cons : {X : Type 0} (f : X → X) (o : Option X) (x : X) (ys zs : List X) → map_option f o ≡ Some (f x) → map f ys ≡ map f zs → map f (cons_option o ys) ≡ map f (x ∷ zs)
option_cons f None x ys zs e h = cc
option_cons f (Some y) x ys zs e h = let k : f y ≡ f x = cc in λ i. k i ∷ h i

pub list_backs : {X : Type 0} (f : X → X) (some : Part → Option X) (to_form : X → Form) (P : X → Type 0) (p : Place) (r : Row) (i : ℕ) → ((x : X) → P x → Backs p (to_form x) (λ q. map_option f (some q) ≡ Some (f x))) → IsPlacedFrom i r p → (xs : List X) → All P xs → BacksAll r i (map to_form xs) (λ qs. map f (filter_map some qs) ≡ map f xs)
list_backs f some to_form P p r i each e [] h = no_children r i refl
list_backs f some to_form P p r i each e (x ∷ xs) h =
    child r i p (e i (omega arith)) (each x (All-head P x xs h)) (list_backs f some to_form P p r (i + 1) each (λ j l. e j (omega arith)) xs (All-tail P x xs h))
    (λ a bs k l. option_cons f (some a) x (filter_map some bs) xs k l)
