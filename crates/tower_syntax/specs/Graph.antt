-- Who hears whom: subscribers, links between handlers, and what a source reaches.
use Rattle.std.specs.Prelude.{ℕ, zero, suc, List, [], ◌∷◌, map, filter, length, slice_index_or, Bool, true, false, ◌||◌, ◌==◌, ◌≡◌, Contains, IsTrue}
use Rattle.std.specs.List.{list_any}
use Rattle.tower_syntax.specs.declared.arch.On.{On}
use Rattle.tower_syntax.specs.declared.arch.On.TheVariants as on
use Rattle.tower_syntax.specs.declared.arch.Listener.{Listener}
use Rattle.tower_syntax.specs.declared.arch.Listener.TheVariants as to
use Rattle.tower_syntax.specs.Arch.{Arch, Handler, Output, Emitter}

-- one where no handler stands
abbrev pub no_handler : Handler
no_handler = record { name = []; monitor = 0; on = on.Source 0; emitters = []; callbacks = [] }

abbrev pub handler : Arch → ℕ → Handler
handler arch h = slice_index_or arch.handlers h no_handler

abbrev pub no_output : Output
no_output = record { name = []; channel = 0 }

abbrev pub output : Arch → ℕ → Output
output arch o = slice_index_or arch.outputs o no_output

abbrev pub same_on : On → On → Bool
same_on (on.Source a) (on.Source b) = a == b
same_on (on.Source a) (on.Channel b) = false
same_on (on.Channel a) (on.Source b) = false
same_on (on.Channel a) (on.Channel b) = a == b

-- does the handler or output name this source or channel
abbrev pub hears : Arch → On → Listener → Bool
hears arch c (to.Handler h) = same_on (handler arch h).on c
hears arch c (to.Output o) = same_on (on.Channel (output arch o).channel) c

-- the handlers and outputs that name a source or channel, in file order
abbrev pub subs : Arch → On → List Listener
subs arch c = filter (hears arch c) arch.listeners

abbrev pub is_handler : ℕ → Listener → Bool
is_handler k (to.Handler h) = h == k
is_handler k (to.Output o) = false

-- a channel of an emitter of h, used or not, has k among its subscribers
abbrev pub leads : Arch → ℕ → ℕ → Bool
leads arch h k = list_any (λ e. list_any (is_handler k) (subs arch (on.Channel e.channel))) (handler arch h).emitters

-- a list of links goes from a handler on the source to h
pub data Reaches (arch : Arch) (s : ℕ) : ℕ → Type 0 where
  begins : (h : ℕ) → Contains (subs arch (on.Source s)) (to.Handler h) → Reaches arch s h
  goes : (h k : ℕ) → Reaches arch s h → leads arch h k ≡ true → Reaches arch s k

-- 0, 1, up to n - 1, after those of the list
abbrev pub numbers_before : ℕ → List ℕ → List ℕ
numbers_before zero ks = ks
numbers_before (suc n) ks = numbers_before n (n ∷ ks)

abbrev pub handler_numbers : Arch → List ℕ
handler_numbers arch = numbers_before (length arch.handlers) []

-- the handlers on a source, ascending
abbrev pub handlers_on : Arch → On → List ℕ
handlers_on arch c = filter (λ k. list_any (is_handler k) (subs arch c)) (handler_numbers arch)

-- these handlers, and those that one of them leads to, ascending
abbrev pub spread : Arch → List ℕ → List ℕ
spread arch hs = filter (λ k. list_any (λ h. h == k || leads arch h k) hs) (handler_numbers arch)

abbrev pub spread_times : Arch → ℕ → List ℕ → List ℕ
spread_times arch zero hs = hs
spread_times arch (suc n) hs = spread_times arch n (spread arch hs)

-- the handlers that a source reaches, ascending: no more links are needed than there are handlers
abbrev pub reached_by : Arch → ℕ → List ℕ
reached_by arch s = spread_times arch (length arch.handlers) (handlers_on arch (on.Source s))
