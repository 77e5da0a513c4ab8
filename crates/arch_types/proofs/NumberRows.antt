-- The worked scopes, and the worked file.
use Rattle.std.proofs.Common.{[], ◌∷◌, refl, arith}
use Rattle.std.proofs.lemmas.List.Elements.{All-nil, All-cons}
use Rattle.tower_types.specs.declared.scalar.Scalar.TheVariants as is
use Rattle.tower_syntax.specs.declared.named.Target.TheVariants as target
use Rattle.tower_syntax.specs.declared.body.Root.TheVariants as root_of
use Rattle.tower_syntax.specs.RawTree.{Link, word, RawHpart, callback, RawPart, state, handler}
use Rattle.tower_syntax.specs.Tree as tree
use Rattle.arch_types.specs.Outline.{outline, Written}
use Rattle.arch_types.specs.Numbered.{IsPartOf, IsHandler, IsState}
use Rattle.arch_types.specs.WorkedNumbers.{name, one, set_state, small, at_entry, WorkedNumbers}

abbrev the_callback : RawHpart Link
the_callback = callback 66 (name 68 (118 ∷ [])) (one set_state)

abbrev the_source : Link
the_source = record { at = 64; target = target.Source 0 }

abbrev the_handler : Written
the_handler = record { monitor = 0; name = name 62 (104 ∷ []); on = the_source; parts = the_callback ∷ [] }

abbrev first_part : RawPart Link
first_part = state 39 (name 46 (120 ∷ [])) (word 48 is.Bool)

abbrev second_part : RawPart Link
second_part = handler 53 (name 62 (104 ∷ [])) the_source (the_callback ∷ [])

is_handler : IsHandler (outline small) the_handler
is_handler = record {
  on = omega arith;
  few = omega arith;
  parts = All-cons (IsPartOf (outline small) at_entry) the_callback [] (((omega arith, tt), tt), omega arith, omega arith) (All-nil (IsPartOf (outline small) at_entry));
}

pub worked : WorkedNumbers
worked = record {
  behind = ((tt, omega arith), ((tt, tt), tt));
  in_itself = λ h. h.0;
  in_list = ((tt, ((tt, omega arith), ((tt, tt), tt)), tt), tt);
  in_other_list = λ h. h.0.2.0.0;
  behind_list = λ h. h.1.0.0;
  next_number = ((tt, ((tt, omega arith), tt), tt), ((tt, omega arith), ((tt, tt), tt)));
  in_body = ((omega arith, omega arith, (tt, tt)), tt);
  behind_loop = λ h. h.1.0;
  numbered = record {
    version = (omega arith, omega arith);
    few = omega arith;
    few_handlers = omega arith;
    items = ((tt, omega arith), refl, (All-cons (IsState 0) first_part (second_part ∷ []) (tt, omega arith) (All-cons (IsState 0) second_part [] tt (All-nil (IsState 0))), omega arith, tt));
    handlers = All-cons (IsHandler (outline small)) the_handler [] is_handler (All-nil (IsHandler (outline small)));
  };
  checked = record {
    outlined = refl;
    handlers = (
      record {
        name = refl;
        monitor = refl;
        on = refl;
        emitters = refl;
        callbacks = (
          (
            refl,
            (
              [],
              [],
              _,
              tree.no_stmts,
              (is.Bool, record { root = root_of.State 0; steps = [] }, _, (refl, refl), refl, (record { root = root_of.Param; steps = [] }, (refl, refl), refl), refl, refl),
              (refl, refl),
              refl,
              refl,
            ),
          ),
          tt,
        );
      },
      tt,
    );
  };
}
