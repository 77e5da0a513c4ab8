-- The worked cases compute.
use Rattle.std.proofs.Common.{refl}
use Rattle.task_policies.specs.Worked.{WorkedCeilings, WorkedCores}

pub ceilings : WorkedCeilings
ceilings = record {
  first = refl;
  second = refl;
  first_again = refl;
  raised = refl;
  raised_only = refl;
  less = refl;
  less_first = refl;
  not_lowered = refl;
  nobody = refl;
  of_flight = refl;
}

pub cores : WorkedCores
cores = record {
  one = refl;
  two = refl;
  two_again = refl;
  three = refl;
  last = refl;
  around = refl;
  few = refl;
  few_again = refl;
  nobody = refl;
  core = refl;
  core_of_few = refl;
}
