-- How long the code of a delivery is.
use Rattle.std.proofs.Common.{◌≡◌, ℕ, zero, suc, ◌+◌, ◌*◌, ◌≤◌, List, [], ◌∷◌, length, map, sum, refl, arith, slice_index_or}
use Rattle.tower_syntax.specs.declared.arch.On.TheVariants as on
use Rattle.tower_syntax.specs.declared.arch.Listener.{Listener}
use Rattle.tower_syntax.specs.declared.arch.Listener.TheVariants as to
use Rattle.tower_syntax.specs.Arch.{Arch, Emitter}
use Rattle.tower_syntax.specs.Graph.{subs}
use Rattle.tower_syntax.specs.Weights.{emitter_words, subscribers_weight}
use Rattle.task_code.specs.declared.frame.Frame.{Frame}
use Rattle.task_code.specs.Piece.{end, joined}
use Rattle.task_code.proofs.Lists.{cons_sum}
use Rattle.task_code.proofs.Pieces.{size, size_is}
use Rattle.emit_code.specs.Delivery.{Entry, entry_of, words_got, item_code, emitter_code, delivery_code}
use Rattle.emit_code.specs.Delivering.{delivery_length, DeliveryIsShort}

got_size : (n i b a j : ℕ) → size (words_got i b a j n) ≡ 4 * n
got_size zero i b a j = omega arith
got_size (suc n) i b a j = let q = got_size n i b a (suc j) in omega (arith, q)

items_size : (entries : List Entry) (i b scratch width : ℕ) (ls : List Listener) → size (joined (map (item_code entries i b scratch width) ls)) ≤ subscribers_weight (λ k. 0) width ls
items_size entries i b scratch width [] = omega arith
items_size entries i b scratch width (to.Output o ∷ ls) = let q = items_size entries i b scratch width ls in let r = got_size width i b scratch 0 in omega (arith, q, r)
items_size entries i b scratch width (to.Handler k ∷ ls) = let q = items_size entries i b scratch width ls in let r = got_size width i b (entry_of entries k).frame.param 0 in omega (arith, q, r)

-- what an emitter's delivery is weighed, as it stands in the code
abbrev pub standing_weight : Arch → Emitter → ℕ
standing_weight arch e = 32 + subscribers_weight (λ k. 0) (emitter_words arch e) (subs arch (on.Channel e.channel))

pub delivery_size : (arch : Arch) (entries : List Entry) (f : Frame) (es : List Emitter) (from k : ℕ) → size (delivery_code arch entries f from k es) ≤ sum (map (standing_weight arch) es)
delivery_size arch entries f [] from k = omega arith
delivery_size arch entries f (e ∷ es) from k =
    let first = emitter_code entries from (f.temps + 2) (f.first_buffer + k) (slice_index_or f.scratch k 0) (emitter_words arch e) (subs arch (on.Channel e.channel)) in
    let q = items_size entries (f.temps + 2) (f.first_buffer + k) (slice_index_or f.scratch k 0) (emitter_words arch e) (subs arch (on.Channel e.channel)) in
    let r = delivery_size arch entries f es (end from first) (suc k) in
    let s = cons_sum (standing_weight arch e) (map (standing_weight arch) es) in
    omega (arith, q, r, s)

each_weighs : (w : ℕ) (ls : List Listener) → subscribers_weight (λ k. 0) w ls ≡ (40 + 24 * w) * length ls
each_weighs w [] = omega arith
each_weighs w (to.Output o ∷ ls) = let q = each_weighs w ls in omega (arith, q)
each_weighs w (to.Handler k ∷ ls) = let q = each_weighs w ls in omega (arith, q)

all_weigh : (arch : Arch) (es : List Emitter) → sum (map (standing_weight arch) es) ≡ delivery_length arch es
all_weigh arch [] = refl
all_weigh arch (e ∷ es) =
    let one = each_weighs (emitter_words arch e) (subs arch (on.Channel e.channel)) in
    let rest = all_weigh arch es in
    let s = cons_sum (standing_weight arch e) (map (standing_weight arch) es) in
    let t = cons_sum (32 + (40 + 24 * emitter_words arch e) * length (subs arch (on.Channel e.channel))) (map (λ e. 32 + (40 + 24 * emitter_words arch e) * length (subs arch (on.Channel e.channel))) es) in
    omega (arith, one, rest, s, t)

pub is_short : DeliveryIsShort
is_short arch entries f a es =
    let q = size_is (delivery_code arch entries f a 0 es) in
    let r = delivery_size arch entries f es a 0 in
    let s = all_weigh arch es in
    omega (arith, q, r, s)
