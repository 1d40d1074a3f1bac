-- How many lines the log writes in a second.
use Rattle.std.specs.Prelude.{ℕ, ◌==◌, if◌then◌else◌}
use Rattle.afd_log.specs.declared.quota.Quota.{Quota}

-- how many lines were counted in a second of the clock; a quota knows the last one alone in which there was a line
abbrev pub lines_in : Quota → ℕ → ℕ
lines_in quota second = if quota.second == second then quota.lines else 0
