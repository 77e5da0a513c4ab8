use Rattle.tower_reader.proofs.Rows.{worked_trees, worked_tokens, worked_forms, worked_numbers}
use Rattle.tower_reader.proofs.laws.worked_texts.Goals as goal

pub returns-clause-trees : goal.returns-clause-trees
returns-clause-trees c = worked_trees

pub returns-clause-tokens : goal.returns-clause-tokens
returns-clause-tokens c = worked_tokens

pub returns-clause-forms : goal.returns-clause-forms
returns-clause-forms c = worked_forms

pub returns-clause-numbers : goal.returns-clause-numbers
returns-clause-numbers c = worked_numbers
