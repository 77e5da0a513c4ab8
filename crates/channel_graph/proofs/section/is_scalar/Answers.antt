use Rattle.channel_graph.proofs.Ones.{is_one-Scalar, is_one-Array, is_one-Rec}
use Rattle.channel_graph.proofs.section.is_scalar.Goals as goal

pub returns-in-Scalar : goal.returns-in-Scalar
returns-in-Scalar c = λ arch. is_one-Scalar arch c.args.ty.now c.in-Scalar.field-0 c.in-Scalar.is

pub returns-in-Array : goal.returns-in-Array
returns-in-Array c = λ arch. is_one-Array arch c.args.ty.now c.in-Array.field-0 c.in-Array.field-1 c.in-Array.is

pub returns-in-Rec : goal.returns-in-Rec
returns-in-Rec c = λ arch. is_one-Rec arch c.args.ty.now c.in-Rec.field-0 c.in-Rec.is
