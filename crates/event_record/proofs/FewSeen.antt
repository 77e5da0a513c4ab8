-- Few words of a line say the same as all of them.
use Rattle.std.proofs.Common.{◌≡◌, ℕ, List, [], ◌∷◌, refl, ap, sym, ◌∙◌, Bool, true, false, cond, Option, Some, None}
use Rattle.event_record.specs.declared.line.Few.{Few}
use Rattle.event_record.specs.declared.line.Few.TheVariants as few
use Rattle.event_record.specs.declared.choices.Verb.{Verb}
use Rattle.event_record.specs.declared.choices.Verb.TheVariants as verb
use Rattle.event_record.specs.declared.order.Act.{Act}
use Rattle.event_record.specs.Lines.{Bytes}
use Rattle.event_record.specs.FewWords.{HasFew, listed, three}
use Rattle.event_record.specs.ChoiceLine.{choice_by}
use Rattle.event_record.specs.OrderLine.{bare_form, marked_by, act_of, arrives_alone}
use Rattle.event_record.specs.RecordLine.{tick_form}

-- a function that tells no lists of three or more apart
abbrev TellsFew : {X : Type 0} → (List Bytes → X) → Type 0
TellsFew f = (a b c : Bytes) (rest : List Bytes) → f (a ∷ b ∷ c ∷ rest) ≡ f three

few_same : {X : Type 0} (f : List Bytes → X) → TellsFew f → (ws : List Bytes) (w : Few) → HasFew ws w → f ws ≡ f (listed w)
few_same f t ws few.None h = ap f h
few_same f t ws (few.One a) h = ap f h
few_same f t ws (few.Two a b) h = ap f h
few_same f t ws few.More h = ap f h.4 ∙ t h.0 h.1 h.2 h.3

choice_tells : (v : Verb) → TellsFew (choice_by (Some v))
choice_tells verb.Go a b c rest = refl
choice_tells verb.See a b c rest = refl
choice_tells verb.Ev a b c rest = refl
choice_tells verb.Idle a b c rest = refl

pub choice_few : (v : Verb) (ws : List Bytes) (w : Few) → HasFew ws w → choice_by (Some v) ws ≡ choice_by (Some v) (listed w)
choice_few v = few_same (choice_by (Some v)) (choice_tells v)

marked_tells : (o : Option Act) → TellsFew (marked_by o)
marked_tells None a b c rest = refl
marked_tells (Some act) a b c rest = refl

bare_by : (c : Bool) (o : Option Act) (ws vs : List Bytes) → arrives_alone ws ≡ arrives_alone vs → marked_by o ws ≡ marked_by o vs → cond c (arrives_alone ws) (marked_by o ws) ≡ cond c (arrives_alone vs) (marked_by o vs)
bare_by true o ws vs p q = p
bare_by false o ws vs p q = q

pub bare_few : (word : Bytes) (ws : List Bytes) (w : Few) → HasFew ws w → bare_form (word ∷ ws) ≡ bare_form (word ∷ listed w)
bare_few word ws w h =
    let p : arrives_alone ws ≡ arrives_alone (listed w) = few_same arrives_alone (λ a b c rest. refl) ws w h in
    let q : marked_by (act_of word) ws ≡ marked_by (act_of word) (listed w) = few_same (marked_by (act_of word)) (marked_tells (act_of word)) ws w h in
    bare_by _ (act_of word) ws (listed w) p q

pub tick_few : (ws : List Bytes) (w : Few) → HasFew ws w → tick_form ws ≡ tick_form (listed w)
tick_few = few_same tick_form (λ a b c rest. refl)
