-- How long an exchange waits, in milliseconds.
use Rattle.std.specs.Prelude.{ℕ}
use Rattle.tcp_link.specs.declared.answering.Pace.{Pace}
use Rattle.tcp_link.specs.declared.answering.Pace.TheVariants.{Patient, Impatient, Brief, AtOnce}

-- so long the other side may say or take nothing
abbrev pub of_a_step : Pace → ℕ
of_a_step Patient = 5000
of_a_step Impatient = 1500
of_a_step Brief = 100
of_a_step AtOnce = 250

-- so long all addresses of a host are tried
abbrev pub of_connecting : Pace → ℕ
of_connecting Patient = 5000
of_connecting Impatient = 1500
of_connecting Brief = 500
of_connecting AtOnce = 250

-- so long an exchange takes, or what comes behind its connection where the pace is brief
abbrev pub of_all : Pace → ℕ
of_all Patient = 15000
of_all Impatient = 1500
of_all Brief = 100
of_all AtOnce = 250
