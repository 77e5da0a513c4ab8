-- What a round of deliveries makes of a list of costs.
use Rattle.std.proofs.Common.{◌≡◌, ℕ, zero, suc, ◌+◌, ◌-◌, ◌^◌, ◌<◌, ◌≤◌, List, [], ◌∷◌, ◌++◌, All, length, map, sum, get_or, min, slice_get, Some, arith, sym, ◌∙◌, ap, subst, zero-add}
use Rattle.std.proofs.lemmas.List.{map-append}
use Rattle.tower_types.specs.Records.{saturated}
use Rattle.tower_syntax.specs.declared.arch.Emitter.{Emitter as EmitterValue}
use Rattle.tower_syntax.specs.declared.arch.Handler.{Handler as HandlerValue}
use Rattle.tower_syntax.specs.Arch.{Arch}
use Rattle.tower_syntax.specs.View.{emitter_of, handler_of}
use Rattle.tower_syntax.specs.Graph.{handler, numbers_before}
use Rattle.tower_syntax.specs.Weights.{emitter_weight, deliver_within, deliver, section_by, standing}
use Rattle.tower_syntax.specs.WellNumbered.{IsNumberedHandler}
use Rattle.channel_graph.specs.Table.{IsTable, section_of, further, code_of, link_weight, nothing}
use Rattle.channel_graph.proofs.Listed.{numbers_before-suc}
use Rattle.channel_graph.proofs.Led.{emitters_read}
use Rattle.channel_graph.proofs.Searched.{handler_read}
use Rattle.channel_graph.proofs.Saturating.{saturating_step}

-- the channel of each emitter of a handler is one of n
pub channels_below : (arch : Arch) (v : HandlerValue) (items : List EmitterValue) (n : ℕ) → IsNumberedHandler arch (handler_of v) → items ≡ v.emitters → n ≡ length arch.channels → All (λ e. e.channel < n) (map emitter_of items)
channels_below arch v items n numbered same all =
    let few = subst (λ (es : List EmitterValue). All (λ e. e.channel < length arch.channels) (map emitter_of es)) (sym same) numbered.emitters in
    subst (λ m. All (λ e. e.channel < m) (map emitter_of items)) (sym all) few

-- a table that is read
pub table_read : (n : ℕ) (f : ℕ → ℕ) (xs ys : List ℕ) → ys ≡ xs → IsTable n f xs → IsTable (length ys) f ys
table_read n f xs ys same table =
    subst (λ zs. IsTable (length zs) f zs) (sym same) (subst (λ m. IsTable m f xs) (sym table.each) table)

-- what a handler costs after the round
pub rounded : (arch : Arch) (f : ℕ → ℕ) (h : ℕ) (v : HandlerValue) (items : List EmitterValue) (sections : List ℕ) (follows out : ℕ) → slice_get arch.handlers h ≡ Some (handler_of v) → items ≡ v.emitters → IsTable (length arch.handlers) (section_of arch) sections → h < length arch.handlers → follows ≡ saturated (sum (map (emitter_weight arch f) (map emitter_of items))) → out ≡ min (get_or sections h 0 + follows) (2 ^ 64 - 1) → out ≡ saturated (further arch f h)
rounded arch f h v items sections follows out found same table below sum_is out_is =
    let emitters = emitters_read arch h v items found same in
    saturating_step (get_or sections h 0) follows out (section_of arch h) (sum (map (emitter_weight arch f) (map emitter_of items))) (further arch f h) (table.has h below) sum_is out_is
    (ap (λ es. section_of arch h + sum (map (emitter_weight arch f) es)) (sym emitters))

-- where a round changes nothing, no later one does
pub settled_rounds : (arch : Arch) (costs : List ℕ) → ((f : ℕ → ℕ) → IsTable (length arch.handlers) f costs → IsTable (length arch.handlers) (further arch f) costs) → (d n : ℕ) → IsTable (length arch.handlers) (deliver_within n arch) costs → IsTable (length arch.handlers) (deliver_within (d + n) arch) costs
settled_rounds arch costs still zero n table = subst (λ m. IsTable (length arch.handlers) (deliver_within m arch) costs) (sym (zero-add n)) table
settled_rounds arch costs still (suc d) n table =
    let next : suc d + n ≡ suc (d + n) = omega arith in
    subst (λ m. IsTable (length arch.handlers) (deliver_within m arch) costs) (sym next) (still (deliver_within (d + n) arch) (settled_rounds arch costs still d n table))

pub settled_in : (arch : Arch) (costs after : List ℕ) (n : ℕ) → n ≤ length arch.handlers → after ≡ costs → ((f : ℕ → ℕ) → IsTable (length arch.handlers) f costs → IsTable (length arch.handlers) (further arch f) after) → IsTable (length arch.handlers) (deliver_within n arch) costs → IsTable (length arch.handlers) (deliver arch) costs
settled_in arch costs after n few same still table =
    let whole : (length arch.handlers - n) + n ≡ length arch.handlers = omega arith in
    let same_again = λ (f : ℕ → ℕ) (t : IsTable (length arch.handlers) f costs). subst (IsTable (length arch.handlers) (further arch f)) same (still f t) in
    subst (λ m. IsTable (length arch.handlers) (deliver_within m arch) costs) whole (settled_rounds arch costs same_again (length arch.handlers - n) n table)

-- one source more
pub list_more : (f : ℕ → ℕ) (n : ℕ) (xs ys : List ℕ) (x : ℕ) → xs ≡ map f (numbers_before n []) → ys ≡ xs ++ x ∷ [] → x ≡ f n → ys ≡ map f (numbers_before (n + 1) [])
list_more f n xs ys x before grown here =
    let next : suc n ≡ n + 1 = omega arith in
    grown ∙ ap (λ zs. zs ++ x ∷ []) before ∙ ap (λ y. map f (numbers_before n []) ++ y ∷ []) here ∙ sym (map-append f (numbers_before n []) (n ∷ [])) ∙ ap (map f) (sym (numbers_before-suc n)) ∙ ap (λ m. map f (numbers_before m [])) next

-- what the code of a handler that is read weighs
pub code_read : (arch : Arch) (h : ℕ) (v : HandlerValue) (items : List EmitterValue) (links stands out : ℕ) → slice_get arch.handlers h ≡ Some (handler_of v) → items ≡ v.emitters → stands ≡ saturated (section_by standing arch (handler_of v)) → links ≡ saturated (sum (map (link_weight arch nothing) (map emitter_of items))) → out ≡ min (stands + links) (2 ^ 64 - 1) → out ≡ saturated (code_of arch h)
code_read arch h v items links stands out found same stands_is links_is out_is =
    let emitters = emitters_read arch h v items found same in
    let here = ap (λ g. saturated (section_by standing arch g)) (sym (handler_read arch h v found)) in
    saturating_step stands links out (section_by standing arch (handler arch h)) (sum (map (link_weight arch nothing) (map emitter_of items))) (code_of arch h) (stands_is ∙ here) links_is out_is
    (ap (λ es. section_by standing arch (handler arch h) + sum (map (link_weight arch nothing) es)) (sym emitters))
