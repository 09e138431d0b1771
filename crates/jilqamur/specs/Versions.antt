use Rattle.std.specs.Prelude.{ℕ, ◌+◌, ◌*◌}

-- The version of the release, 0.10.0, as one number.
abbrev pub version : ℕ
version = 0 * 10000 + 10 * 100 + 0
