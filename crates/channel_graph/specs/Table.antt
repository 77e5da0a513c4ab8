-- Weights of handlers and channels in lists, each cut at the limit.
use Rattle.std.specs.Prelude.{ℕ, ◌+◌, ◌<◌, ◌≡◌, List, sum, map, filter, length, slice_index_or}
use Rattle.tower_types.specs.Records.{saturated}
use Rattle.tower_syntax.specs.declared.arch.On.{On}
use Rattle.tower_syntax.specs.declared.arch.On.TheVariants as on
use Rattle.tower_syntax.specs.declared.arch.Listener.{Listener}
use Rattle.tower_syntax.specs.Arch.{Arch, Emitter}
use Rattle.tower_syntax.specs.Graph.{handler, hears}
use Rattle.tower_syntax.specs.Weights.{move, message_words, section, emitter_weight, subscribers_weight, handler_memory, handler_code}

-- the list has f of each of the first n numbers
pub record IsTable (n : ℕ) (f : ℕ → ℕ) (xs : List ℕ) : Type 0 where
  pub each : length xs ≡ n
  pub has : (k : ℕ) → k < n → slice_index_or xs k 0 ≡ saturated (f k)

-- to move a message of a channel
abbrev pub channel_move : Arch → ℕ → ℕ
channel_move arch c = move (message_words arch (on.Channel c))

-- to deliver one message to each of its subscribers among these, where a handler costs as said
abbrev pub weight_among : Arch → (ℕ → ℕ) → List Listener → On → ℕ
weight_among arch f ls o = subscribers_weight f (message_words arch o) (filter (hears arch o) ls)

-- to deliver one message of a channel
abbrev pub channel_weight : Arch → (ℕ → ℕ) → ℕ → ℕ
channel_weight arch f c = weight_among arch f arch.listeners (on.Channel c)

abbrev pub section_of : Arch → ℕ → ℕ
section_of arch h = section arch (handler arch h)

-- a handler with all that follows through one link, where each that it leads to costs as said
abbrev pub further : Arch → (ℕ → ℕ) → ℕ → ℕ
further arch f h = section_of arch h + sum (map (emitter_weight arch f) (handler arch h).emitters)

-- the words of a handler's frame and buffers
abbrev pub frame_of : Arch → ℕ → ℕ
frame_of arch h = handler_memory arch (handler arch h)

-- what the code of a handler weighs
abbrev pub code_of : Arch → ℕ → ℕ
code_of arch h = handler_code arch (handler arch h)

-- an emitter in the code, whatever its bound
abbrev pub link_weight : Arch → (ℕ → ℕ) → Emitter → ℕ
link_weight arch f e = 32 + channel_weight arch f e.channel

-- what costs nothing
abbrev pub nothing : ℕ → ℕ
nothing h = 0
