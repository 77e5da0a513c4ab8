-- What the sources cost, as they are listed; and names that are read.
use Rattle.std.proofs.Common.{◌≡◌, inl, inr, ◌<◌, ◌≤◌, ℕ, zero, suc, ◌+◌, List, [], ◌∷◌, length, map, get_or, slice_get, Some, refl, sym, ap, ◌∙◌, subst, arith}
use Rattle.std.proofs.lemmas.Bool.{cases_lt}
use Rattle.std.proofs.lemmas.List.{length-map, get_or-map}
use Rattle.tower_types.specs.Records.{saturated}
use Rattle.tower_syntax.specs.declared.arch.Source.{Source as SourceValue}
use Rattle.tower_syntax.specs.View.{source_of}
use Rattle.tower_syntax.specs.Arch.{Arch, Source, Handler}
use Rattle.tower_syntax.specs.Graph.{no_handler}
use Rattle.tower_syntax.specs.Weights.{cost, source_numbers}
use Rattle.channel_graph.proofs.Members.{In, number_below}
use Rattle.arch_checks.specs.Limits.{work_limit}
use Rattle.arch_checks.specs.Firsts.{AreCheap}
use Rattle.arch_checks.specs.Offences.{source_name, handler_name}
use Rattle.arch_checks.proofs.Numbers.{weights_length, weight_at}

abbrev pub AreCosts : Arch → List ℕ → Type 0
AreCosts arch all = all ≡ map (λ s. saturated (cost arch s)) (source_numbers arch)

pub costs_length : (arch : Arch) (all : List ℕ) → AreCosts arch all → length all ≡ length arch.sources
costs_length arch all h = ap length h ∙ weights_length (λ s. saturated (cost arch s)) (length arch.sources)

pub cost_at : (arch : Arch) (all : List ℕ) (s d : ℕ) → AreCosts arch all → s < length arch.sources → get_or all s d ≡ saturated (cost arch s)
cost_at arch all s d h l = ap (λ xs. get_or xs s d) h ∙ weight_at (λ k. saturated (cost arch k)) (length arch.sources) s d l

-- one more source that costs no more than it may
pub cheap_more : (arch : Arch) (all : List ℕ) (n d : ℕ) → AreCosts arch all → n < length arch.sources → get_or all n d ≤ work_limit → AreCheap arch n → AreCheap arch (n + 1)
cheap_more arch all n d h l le cheap s below = elim (cases_lt s n) [
  | inl m ↦ cheap s m
  | inr m ↦
      let e : n ≡ s = omega (arith, below, m) in
      let k : cost arch n ≤ work_limit = omega (arith, le, cost_at arch all n d h l) in
      subst (λ x. cost arch x ≤ work_limit) e k
]

pub dear : (arch : Arch) (all : List ℕ) (s d : ℕ) → AreCosts arch all → s < length arch.sources → work_limit < get_or all s d → work_limit < cost arch s
dear arch all s d h l more = omega (arith, more, cost_at arch all s d h l)

map_same : {X Y : Type 0} (f g : X → Y) (xs : List X) → ((x : X) → In x xs → f x ≡ g x) → map f xs ≡ map g xs
map_same f g [] h = refl
map_same f g (x ∷ xs) h = λ i. h x (inl refl) i ∷ map_same f g xs (λ y k. h y (inr k)) i

uncut : (n : ℕ) → n ≤ work_limit → saturated n ≡ n
uncut n h = omega (arith, h)

-- no cost is cut where none is above the limit
pub costs_exact : (arch : Arch) (all : List ℕ) → AreCosts arch all → AreCheap arch (length arch.sources) → all ≡ map (cost arch) (source_numbers arch)
costs_exact arch all h cheap = h ∙ map_same (λ s. saturated (cost arch s)) (cost arch) (source_numbers arch) (λ s i. uncut (cost arch s) (cheap s (number_below (length arch.sources) s i)))

pub source_named : (arch : Arch) (items : List SourceValue) (s : ℕ) (x : SourceValue) → map source_of items ≡ arch.sources → s < length items → x ≡ get_or items s x → x.name ≡ source_name arch s
source_named arch items s x e l is =
    let within : s < length arch.sources = omega (arith, l, ap length e, length-map items source_of) in
    let here : get_or arch.sources s (source_of x) ≡ source_of (get_or items s x) = ap (λ xs. get_or xs s (source_of x)) (sym e) ∙ get_or-map source_of items s x (source_of x) l in
    sym (get_or-map (λ y. y.name) arch.sources s (source_of x) [] within ∙ ap (λ y. y.name) here ∙ ap (λ y. y.name) (sym is))

pub source_got : (xs : List Source) (s : ℕ) (x : Source) → slice_get xs s ≡ Some x → get_or (map (λ y. y.name) xs) s [] ≡ x.name
source_got [] s x e = cc
source_got (y ∷ ys) zero x e = let same : y ≡ x = cc in ap (λ z. z.name) same
source_got (y ∷ ys) (suc s) x e = source_got ys s x e

handler_got : (xs : List Handler) (d : Handler) (h : ℕ) (x : Handler) → slice_get xs h ≡ Some x → get_or xs h d ≡ x
handler_got [] d h x e = cc
handler_got (y ∷ ys) d zero x e = cc
handler_got (y ∷ ys) d (suc h) x e = handler_got ys d h x e

pub handler_named : (arch : Arch) (h : ℕ) (x : Handler) → slice_get arch.handlers h ≡ Some x → x.name ≡ handler_name arch h
handler_named arch h x e = sym (ap (λ y. y.name) (handler_got arch.handlers no_handler h x e))
