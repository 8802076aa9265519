-- How deep the phrases and statements of a module may hold one another: as deep as a text may nest, and within one level
-- of nesting through each rank of operators.
use Rattle.std.specs.Prelude.{ℕ, ◌*◌}
use Rattle.pw_token.specs.Limits.{nest_limit}

-- the levels of phrases within a level of nesting: no fewer than there are ranks of operators (C90 6.3.1 to 6.3.17)
abbrev pub levels_within_a_nest : ℕ
levels_within_a_nest = 20

abbrev pub phrase_depth : ℕ
phrase_depth = levels_within_a_nest * nest_limit
