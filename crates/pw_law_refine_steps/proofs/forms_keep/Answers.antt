use Rattle.pw_law_refine_steps.proofs.Forms.{number-keeps, comma-keeps}
use Rattle.pw_law_refine_steps.proofs.Unary.{plus-keeps, minus-keeps, complement-keeps}
use Rattle.pw_law_refine_steps.proofs.Binary.{binary-keeps}
use Rattle.pw_law_refine_steps.proofs.Casts.{cast-keeps}
use Rattle.pw_law_refine_steps.proofs.forms_keep.Goals as goal

pub returns-clause-numbers : goal.returns-clause-numbers
returns-clause-numbers c = λ bound t k ty. number-keeps bound t ty k

pub returns-clause-commas : goal.returns-clause-commas
returns-clause-commas c = λ bound t ty a b first second.
    comma-keeps bound t ty a b (record { later = c.later_code_keeps.ensures.expressions; contain = c.graphs_contain_the_parts.ensures.expressions }) first second

pub returns-clause-plus : goal.returns-clause-plus
returns-clause-plus c = λ bound t ty a keeps. plus-keeps bound t ty a (c.values_have_types.ensures.expressions bound) keeps

pub returns-clause-minus : goal.returns-clause-minus
returns-clause-minus c = λ bound t ty a keeps.
    minus-keeps bound t ty a (record { later = c.later_code_keeps.ensures.expressions; contain = c.graphs_contain_the_parts.ensures.expressions })
    (c.values_have_types.ensures.expressions bound) keeps

pub returns-clause-complement : goal.returns-clause-complement
returns-clause-complement c = λ bound t ty a keeps.
    complement-keeps bound t ty a (record { later = c.later_code_keeps.ensures.expressions; contain = c.graphs_contain_the_parts.ensures.expressions })
    (c.values_have_types.ensures.expressions bound) keeps

pub returns-clause-casts : goal.returns-clause-casts
returns-clause-casts c = λ bound t ty a keeps.
    cast-keeps bound t ty a (record { later = c.later_code_keeps.ensures.expressions; contain = c.graphs_contain_the_parts.ensures.expressions })
    (c.values_have_types.ensures.expressions bound) keeps

pub returns-clause-binary : goal.returns-clause-binary
returns-clause-binary c = λ bound t ty o a b j k left right first second.
    binary-keeps bound t ty o a b j k (record { later = c.later_code_keeps.ensures.expressions; contain = c.graphs_contain_the_parts.ensures.expressions })
    (c.values_have_types.ensures.expressions bound) left right first second
