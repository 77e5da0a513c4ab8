-- How much a file may have of each thing.
use Rattle.std.specs.Prelude.{ℕ}
use Rattle.arch_checks.specs.declared.fault.What.{What}
use Rattle.arch_checks.specs.declared.fault.What.TheVariants as what

abbrev pub limit : What → ℕ
limit what.Sources = 64
limit what.Channels = 4096
limit what.Outputs = 1024
limit what.Monitors = 1024
limit what.Handlers = 4096
limit what.Records = 1024
limit what.Depth = 32
limit what.Words = 4096
limit what.Chain = 100
limit what.Memory = 1048576
limit what.Code = 1000000

-- how many instructions one message of a source may cost
abbrev pub work_limit : ℕ
work_limit = 1000000000

-- the order in which the limits are looked at
abbrev pub order : What → ℕ
order what.Sources = 0
order what.Channels = 1
order what.Outputs = 2
order what.Monitors = 3
order what.Handlers = 4
order what.Records = 5
order what.Depth = 6
order what.Words = 7
order what.Chain = 8
order what.Memory = 9
order what.Code = 10

-- how many limits there are
abbrev pub limits : ℕ
limits = 11
