use Rattle.std.proofs.Common.{List, length, All, ap, sym, subst, ◌∙◌}
use Rattle.tower_types.specs.Ty.{Name, shape_of_fields, table_of, words, depth}
use Rattle.tower_types.specs.View.{fields_of}
use Rattle.tower_types.specs.Records.{IsTypeAmong, saturated}
use Rattle.tower_types.specs.declared.ty.Ty.{Ty as TyValue}
use Rattle.tower_types.proofs.Kept.{kept_pushed}
use Rattle.tower_types.proofs.records.Records.push.Goals as goal

pub invariant_of-self-2 : goal.invariant_of-self-2
invariant_of-self-2 c =
    let now = c.args.self.now in
    let moved = c.from_vec-fields.ensures in
    let Known : List (Name × TyValue) → Type 0 = λ fs. All (λ f. IsTypeAmong (length now) f.1) (fields_of fs) in
    let known = subst Known (sym moved) c.requires.known in
    let wide = c.fields_words-width.ensures ∙ ap (λ fs. saturated (words (shape_of_fields (table_of now) (fields_of fs)))) (c.as_slice.ensures.value ∙ sym moved) in
    let deep = c.fields_depth-height.ensures ∙ ap (λ fs. saturated (depth (shape_of_fields (table_of now) (fields_of fs)))) (c.as_slice-2.ensures.value ∙ sym moved) in
    kept_pushed c.self.inside.records _ now _ c.self.view_is c.self.invariant c.requires.room known wide deep c.in_ok-push.ensures.ok
