-- A list whose elements are gone through in turn, as far as it is.
use Rattle.std.proofs.Common.{◌≡◌, ◌⊎◌, inl, inr, ℕ, ◌+◌, ◌<◌, ◌≤◌, List, [], ◌∷◌, ◌++◌, map, length, take, drop, get_or, Result, Ok, Err, refl, sym, ap, subst, ◌∙◌, append_assoc, append-nil, take-append-drop}
use Rattle.std.proofs.lemmas.List.{take_all, map-append}
use Rattle.std.specs.Result.{IsErrAnd, IfErr}
use Rattle.std.proofs.lemmas.Result.{err_from_is_err_and}
use Rattle.tower_syntax.specs.RawTree.{Link, RawItem}
use Rattle.tower_syntax.specs.Arch.{Handler}
use Rattle.arch_types.specs.declared.fault.TypeFault.{TypeFault}
use Rattle.arch_types.specs.declared.fault.TypeFault.TheVariants as fault
use Rattle.arch_types.specs.Outline.{each, Written, handlers_from}
use Rattle.arch_types.specs.Walk.{and_then, Gives}
use Rattle.arch_types.specs.Turns.{in_turn, put_after, Went, Stops}
use Rattle.arch_types.proofs.Gathered.{map_take_more, each-append, each-push}
use Rattle.arch_types.proofs.Listed.{next_of, none_of}

pub exit_gives : {T A : Type 0} (r : Result T TypeFault) (see : T → A) (computed : Result A TypeFault) (f : TypeFault) → IsErrAnd r (λ x. x ≡ f) → (f ≡ fault.NoMemory) ⊎ (computed ≡ Err f) → Gives see computed r
exit_gives r see computed f h q = let p = err_from_is_err_and r h in rw (p.1, p.2) q

pub exit_stops : {T : Type 0} (r : Result T TypeFault) (P : TypeFault → Type 0) (f : TypeFault) → IsErrAnd r (λ x. x ≡ f) → P f → IfErr r P
exit_stops r P f h q = let p = err_from_is_err_and r h in rw (p.1, p.2) q

put_none : {Y : Type 0} (r : Result (List Y) TypeFault) → put_after [] r ≡ r
put_none (Ok ys) = refl
put_none (Err e) = refl

put_err : {Y : Type 0} (made : List Y) (r : Result (List Y) TypeFault) (e : TypeFault) → put_after made r ≡ Err e → r ≡ Err e
put_err made (Ok ys) e h = absurd (cc)
put_err made (Err f) e h = h

put_one : {Y : Type 0} (made : List Y) (y : Y) (r : Result (List Y) TypeFault) → put_after made (and_then r (λ ys. Ok (y ∷ ys))) ≡ put_after (made ++ y ∷ []) r
put_one made y (Ok ys) = ap Ok (sym (append_assoc made (y ∷ []) ys))
put_one made y (Err e) = refl

module _ {X Y : Type 0} (f : X → Result Y TypeFault) where
  pub went_none : (made : List Y) → Went made f [] made
  went_none made = λ rest. refl

  pub went_one : (made made' : List Y) (x : X) (y : Y) → f x ≡ Ok y → made' ≡ made ++ y ∷ [] → Went made f (x ∷ []) made'
  went_one made made' x y h e = λ rest. ap (λ r. put_after made (and_then r (λ z. and_then (in_turn f rest) (λ ys. Ok (z ∷ ys))))) h ∙ put_one made y (in_turn f rest) ∙ ap (λ m. put_after m (in_turn f rest)) (sym e)

  pub stops_one : (x : X) (e : TypeFault) → (e ≡ fault.NoMemory) ⊎ (f x ≡ Err e) → Stops f (x ∷ []) e
  stops_one x e h = elim h [
    | inl i ↦ inl i
    | inr i ↦ inr (λ rest. ap (λ r. and_then r (λ z. and_then (in_turn f rest) (λ ys. Ok (z ∷ ys)))) i)
  ]

  went_more : (a b c : List Y) (xs ys : List X) → Went a f xs b → Went b f ys c → Went a f (xs ++ ys) c
  went_more a b c xs ys g h = λ rest. ap (λ zs. put_after a (in_turn f zs)) (append_assoc xs ys rest) ∙ g (ys ++ rest) ∙ h rest

  stops_more : (a b : List Y) (xs ys zs : List X) (e : TypeFault) → Went a f xs b → Stops f ys e → Stops f (xs ++ (ys ++ zs)) e
  stops_more a b xs ys zs e g h = elim h [
    | inl i ↦ inl i
    | inr i ↦ inr (λ rest. ap (in_turn f) (append_assoc xs (ys ++ zs) rest ∙ ap (λ t. xs ++ t) (append_assoc ys zs rest))
        ∙ put_err a (in_turn f (xs ++ (ys ++ (zs ++ rest)))) e (g (ys ++ (zs ++ rest)) ∙ ap (put_after b) (i (zs ++ rest))))
  ]

  pub went_all : (made : List Y) (xs : List X) → Went [] f xs made → in_turn f xs ≡ Ok made
  went_all made xs g = ap (in_turn f) (sym (append-nil xs)) ∙ sym (put_none (in_turn f (xs ++ []))) ∙ g [] ∙ ap Ok (append-nil made)

  pub stops_all : (xs : List X) (e : TypeFault) → Stops f xs e → (e ≡ fault.NoMemory) ⊎ (in_turn f xs ≡ Err e)
  stops_all xs e h = elim h [ inl i ↦ inl i | inr i ↦ inr (ap (in_turn f) (sym (append-nil xs)) ∙ i []) ]

module _ {R P X Y : Type 0} (raw : R → P) (of : P → List X) (f : X → Result Y TypeFault) where
  pub record Turned (start : List Y) (xs : List R) (seen : List Y) : Type 0 where
    pub went : Went start f (each of (map raw xs)) seen

  pub none_turned : (start seen : List Y) → seen ≡ start → Turned start [] seen
  none_turned start seen e = record { went = λ rest. ap (λ m. put_after m (in_turn f rest)) (sym e) }

  pub more_turned : (start : List Y) (xs : List R) (i : ℕ) (y : R) (seen seen' : List Y) → y ≡ get_or xs i y → i < length xs → Turned start (take i xs) seen → Went seen f (of (raw y)) seen' → Turned start (take (i + 1) xs) seen'
  more_turned start xs i y seen seen' e l h g = record {
    went = subst (λ zs. Went start f zs seen') (sym (each-push of (map raw (take i xs)) (raw y)) ∙ ap (each of) (sym (map_take_more raw xs i y e l)))
        (went_more f start seen seen' (each of (map raw (take i xs))) (of (raw y)) h.went g);
  }

  pub all_turned : (start : List Y) (xs : List R) (i : ℕ) (seen : List Y) → length xs ≤ i → Turned start (take i xs) seen → Went start f (each of (map raw xs)) seen
  all_turned start xs i seen l h = subst (λ zs. Went start f (each of (map raw zs)) seen) (take_all i xs l) h.went

  split : (xs : List R) (i : ℕ) (y : R) → y ≡ get_or xs i y → i < length xs → each of (map raw xs) ≡ each of (map raw (take i xs)) ++ (of (raw y) ++ each of (map raw (drop (i + 1) xs)))
  split xs i y e l =
      ap (λ zs. each of (map raw zs)) (sym (take-append-drop i xs)) ∙ ap (each of) (map-append raw (take i xs) (drop i xs)) ∙ each-append of (map raw (take i xs)) (map raw (drop i xs))
      ∙ ap (λ zs. each of (map raw (take i xs)) ++ each of zs) (next_of raw xs i y e l)

  pub turn_stops : (start : List Y) (xs : List R) (i : ℕ) (y : R) (seen : List Y) (err : TypeFault) → y ≡ get_or xs i y → i < length xs → Turned start (take i xs) seen → Stops f (of (raw y)) err → Stops f (each of (map raw xs)) err
  turn_stops start xs i y seen err e l h s = subst (λ zs. Stops f zs err) (sym (split xs i y e l))
      (stops_more f start seen (each of (map raw (take i xs))) (of (raw y)) (each of (map raw (drop (i + 1) xs))) err h.went s)

module _ {R : Type 0} (raw : R → RawItem Link) (f : Written → Result Handler TypeFault) where
  pub record ItemsTurned (xs : List R) (rest : List R) (made : List Handler) (n : ℕ) : Type 0 where
    pub went : in_turn f (handlers_from 0 (map raw xs)) ≡ put_after made (in_turn f (handlers_from n (map raw rest)))

  pub items_begin : (xs : List R) (made : List Handler) → made ≡ [] → ItemsTurned xs xs made 0
  items_begin xs made e = record { went = sym (put_none (in_turn f (handlers_from 0 (map raw xs)))) ∙ ap (λ m. put_after m (in_turn f (handlers_from 0 (map raw xs)))) (sym e) }

  pub items_more : (xs : List R) (i : ℕ) (y : R) (made made' : List Handler) (n n' : ℕ) → y ≡ get_or xs i y → i < length xs → ItemsTurned xs (drop i xs) made n
      → ((rest : List (RawItem Link)) → put_after made (in_turn f (handlers_from n (raw y ∷ rest))) ≡ put_after made' (in_turn f (handlers_from n' rest)))
      → ItemsTurned xs (drop (i + 1) xs) made' n'
  items_more xs i y made made' n n' e l h g = record {
    went = h.went ∙ ap (λ r. put_after made (in_turn f (handlers_from n r))) (next_of raw xs i y e l) ∙ g (map raw (drop (i + 1) xs));
  }

  pub items_all : (xs : List R) (i : ℕ) (made : List Handler) (n : ℕ) → length xs ≤ i → ItemsTurned xs (drop i xs) made n → in_turn f (handlers_from 0 (map raw xs)) ≡ Ok made
  items_all xs i made n l h = h.went ∙ ap (λ r. put_after made (in_turn f (handlers_from n r))) (none_of raw xs i l) ∙ ap Ok (append-nil made)

  pub items_stop : (xs : List R) (i : ℕ) (y : R) (made : List Handler) (n : ℕ) (err : TypeFault) → y ≡ get_or xs i y → i < length xs → ItemsTurned xs (drop i xs) made n
      → (err ≡ fault.NoMemory) ⊎ ((rest : List (RawItem Link)) → in_turn f (handlers_from n (raw y ∷ rest)) ≡ Err err)
      → (err ≡ fault.NoMemory) ⊎ (in_turn f (handlers_from 0 (map raw xs)) ≡ Err err)
  items_stop xs i y made n err e l h s = elim s [
    | inl j ↦ inl j
    | inr j ↦ inr (h.went ∙ ap (λ r. put_after made (in_turn f (handlers_from n r))) (next_of raw xs i y e l) ∙ ap (put_after made) (j (map raw (drop (i + 1) xs))))
  ]

pub of_items : {R : Type 0} (raw : R → RawItem Link) (f : Written → Result Handler TypeFault) (slice items : List R) (r : Result (List Handler) TypeFault) → slice ≡ items → in_turn f (handlers_from 0 (map raw slice)) ≡ r → in_turn f (handlers_from 0 (map raw items)) ≡ r
of_items raw f slice items r e h = subst (λ xs. in_turn f (handlers_from 0 (map raw xs)) ≡ r) e h
