-- Each command has one answer.
use Rattle.std.proofs.Common.{ℕ, List, [], Option, Some, None}
use Rattle.tower_syntax.specs.declared.event.Choice.{Choice}
use Rattle.tower_top.specs.Commands.{asked_by, where_given}
use Rattle.tower_top.specs.Requests.{Request, no_command, answers}
use Rattle.tower_top.specs.Top.{asked, request_of}
use Rattle.tower_top.specs.Check.{check}
use Rattle.tower_top.specs.Compile.{compile}
use Rattle.tower_top.specs.Run.{run, run_request, with_choices, limit_of, rule_of, status_of, text_of}
use Rattle.tower_words.specs.Words.{Text, Given, given_by}
use Rattle.tower_top.proofs.Exact.{IsExact, asked_by_exact, where_given_exact}
use Rattle.tower_top.proofs.ExactInputs.{file_exact, record_exact, choices_exact}

check_exact : (g : Given) → IsExact (check.request g)
check_exact g = (file_exact g.file, λ v. tt)

compile_exact : (g : Given) → IsExact (compile.request g)
compile_exact g = (file_exact g.file, λ v. tt)

with_choices_exact : (name : Option Text) (next : List Choice → Request) → ((cs : List Choice) → IsExact (next cs)) → IsExact (with_choices name next)
with_choices_exact None next h = h []
with_choices_exact (Some name) next h = (choices_exact name, h)

run_exact : (g : Given) → IsExact (run.request g)
run_exact g =
    where_given_exact g.record_name (λ name. where_given (limit_of g.steps) (λ limit. where_given (rule_of g.policy g.cores) (λ rule. run_request g.file name g.choices_name limit rule)))
    (λ name. where_given_exact (limit_of g.steps) (λ limit. where_given (rule_of g.policy g.cores) (λ rule. run_request g.file name g.choices_name limit rule))
    (λ limit. where_given_exact (rule_of g.policy g.cores) (λ rule. run_request g.file name g.choices_name limit rule)
    (λ rule. (
      file_exact g.file,
      λ arch. (
        record_exact arch name,
        λ events.
            with_choices_exact g.choices_name (λ cs. answers (status_of arch events cs limit rule) (text_of arch events cs limit rule)) (λ cs. tt),
      ),
    ))))

asked_exact : (g : Given) → IsExact (asked g)
asked_exact g =
    asked_by_exact check g (asked_by compile g (asked_by run g no_command)) (check_exact g)
    (asked_by_exact compile g (asked_by run g no_command) (compile_exact g)
    (asked_by_exact run g no_command (run_exact g) tt))

pub request_exact : (words : List (List ℕ)) → IsExact (request_of words)
unfolding request_of
request_exact words = where_given_exact (given_by words) asked asked_exact
