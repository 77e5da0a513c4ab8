-- A callback in its system.
use Rattle.std.specs.Prelude.{refl}
use Rattle.std.specs.Coded.{Coded, code_by, coded×}
use Rattle.tower_syntax.specs.Arch.{Arch, Handler, Body}
use Rattle.tower_syntax.specs.Codes.{coded_arch, coded_handler, coded_body}
use Rattle.tower_syntax.specs.Weights.{Scope, scope_of}
use Rattle.tower_syntax.specs.WellNumbered.{IsNumberedHandler, IsNumberedBody}

pub record Site : Type 0 where
  pub arch : Arch
  pub handler : Handler
  pub body : Body

-- the shapes of the names there
abbrev pub scope_at : Site → Scope
scope_at s = scope_of s.arch s.handler s.body

-- the handler and the callback are numbered as the system is
pub record IsSite (s : Site) : Type 0 where
  pub handler : IsNumberedHandler s.arch s.handler
  pub body : IsNumberedBody s.arch s.handler s.body

abbrev pub coded_site : Coded Site
coded_site =
    code_by (Arch × (Handler × Body)) (coded× coded_arch (coded× coded_handler coded_body))
    (λ s. (s.arch, (s.handler, s.body))) (λ p. record { arch = p.0; handler = p.1.0; body = p.1.1 }) (λ _. refl)
