use Rattle.pw_law_refine_start.proofs.parts_make_programs.Goals as goal

pub returns : goal.returns
returns c = λ parts. c.programs_rest_on_parts.ensures parts c.starts_match.ensures
