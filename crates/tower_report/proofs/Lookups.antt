-- What a number of a system stands for.
use Rattle.std.proofs.Common.{◌≡◌, ℕ, ℤ, List, [], ◌∷◌, map, get_or, Some, slice_get, sym, ap, ◌∙◌}
use Rattle.std.specs.Prelude.{codes, decimal, cond, true, false, is_some}
use Rattle.std.proofs.lemmas.List.{get_or-map}
use Rattle.std.proofs.lemmas.Option.{slice_get_within, get_or_from_slice_get}
use Rattle.tower_types.specs.Ty.{Shape, shape_of}
use Rattle.tower_syntax.specs.Arch.{Arch, Source, Channel, Output}
use Rattle.tower_syntax.specs.Graph.{no_output}
use Rattle.tower_syntax.specs.Weights.{channel_message}
use Rattle.tower_syntax.specs.WellNumbered.{IsNumberedSource}
use Rattle.tower_report.specs.Bytes.{Bytes, line}
use Rattle.tower_report.specs.ValueText.{words_text, value_text}
use Rattle.tower_report.specs.ReplayText.{message_line}
use Rattle.tower_types.specs.Value.{Value}
use Rattle.tower_report.specs.MarkText.{output_name, output_shape, out_line}
use Rattle.tower_report.specs.EndText.{lost_line, lost_text, state_line}

-- what a list shows at a place
shown_at : {X Y : Type 0} (f : X → Y) (xs : List X) (i : ℕ) (x : X) (d : Y) → slice_get xs i ≡ Some x → get_or (map f xs) i d ≡ f x
shown_at f xs i x d at = get_or-map f xs i x d (slice_get_within xs i x at) ∙ ap f (get_or_from_slice_get xs i x x at)

pub output_name_at : (arch : Arch) (o : ℕ) (x : Output) → slice_get arch.outputs o ≡ Some x → output_name arch o ≡ x.name
output_name_at arch o x at = ap (λ y. y.name) (get_or_from_slice_get arch.outputs o x no_output at)

pub output_shape_at : (arch : Arch) (o : ℕ) (x : Output) (y : Channel) → slice_get arch.outputs o ≡ Some x → slice_get arch.channels x.channel ≡ Some y → output_shape arch o ≡ shape_of arch.records y.message
output_shape_at arch o x y at on =
    ap (λ z. shape_of arch.records (channel_message arch z.channel)) (get_or_from_slice_get arch.outputs o x no_output at) ∙ ap (shape_of arch.records) (shown_at (λ c. c.message) arch.channels x.channel y _ on)

pub out_line_same : (arch : Arch) (o : ℕ) (ws : List ℤ) (name : Bytes) (s : Shape) → name ≡ output_name arch o → s ≡ output_shape arch o → line (codes "out" ∷ name ∷ words_text s ws ∷ []) ≡ out_line arch (o, ws)
out_line_same arch o ws name s n e =
    ap (λ x. line (codes "out" ∷ x ∷ words_text s ws ∷ [])) n ∙ ap (λ x. line (codes "out" ∷ output_name arch o ∷ words_text x ws ∷ [])) e

pub message_line_same : (arch : Arch) (o : ℕ) (v : Value) (name : Bytes) (s : Shape) → name ≡ output_name arch o → s ≡ output_shape arch o → line (codes "out" ∷ name ∷ value_text s v ∷ []) ≡ message_line arch (o, v)
message_line_same arch o v name s n e =
    ap (λ x. line (codes "out" ∷ x ∷ value_text s v ∷ [])) n ∙ ap (λ x. line (codes "out" ∷ output_name arch o ∷ value_text x v ∷ [])) e

lost_at : (arch : Arch) (x n : ℕ) (s : Source) → slice_get arch.sources x ≡ Some s → IsNumberedSource arch s → lost_text arch x n ≡ cond (is_some s.depth) (line (codes "lost" ∷ s.name ∷ decimal n ∷ [])) []
lost_at arch x n s at numbered =
    shown_at (λ y. lost_line arch.version y n) arch.sources x s [] at ∙ ap (λ b. cond b (line (codes "lost" ∷ s.name ∷ decimal n ∷ [])) []) (sym numbered.depth)

-- a source with no depth shows no losses
pub none_lost : (arch : Arch) (x n : ℕ) (s : Source) → slice_get arch.sources x ≡ Some s → IsNumberedSource arch s → is_some s.depth ≡ false → [] ≡ lost_text arch x n
none_lost arch x n s at numbered none = sym (lost_at arch x n s at numbered ∙ ap (λ b. cond b (line (codes "lost" ∷ s.name ∷ decimal n ∷ [])) []) none)

pub some_lost : (arch : Arch) (x n : ℕ) (s : Source) (name number : Bytes) → slice_get arch.sources x ≡ Some s → IsNumberedSource arch s → is_some s.depth ≡ true → name ≡ s.name → number ≡ decimal n → line (codes "lost" ∷ name ∷ number ∷ []) ≡ lost_text arch x n
some_lost arch x n s name number at numbered some same digits =
    ap (λ t. line (codes "lost" ∷ t ∷ number ∷ [])) same ∙ ap (λ t. line (codes "lost" ∷ s.name ∷ t ∷ [])) digits ∙ sym (lost_at arch x n s at numbered ∙ ap (λ b. cond b (line (codes "lost" ∷ s.name ∷ decimal n ∷ [])) []) some)

-- a state's line, where the names and the words are known under other names
pub state_line_same : (monitor state : Bytes) (m s text : Bytes) → monitor ≡ m → state ≡ s → state_line monitor state text ≡ state_line m s text
state_line_same monitor state m s text e h = ap (λ x. state_line x state text) e ∙ ap (λ x. state_line m x text) h
