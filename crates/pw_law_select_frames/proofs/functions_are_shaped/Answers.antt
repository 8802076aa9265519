use Rattle.pw_law_select_frames.proofs.Shape.{prologue_shaped, epilogue_shaped}
use Rattle.pw_law_select_frames.proofs.Reaching.{loaded_straight}
use Rattle.pw_law_select_frames.proofs.functions_are_shaped.Goals as goal

pub returns-clause-prologue : goal.returns-clause-prologue
returns-clause-prologue c = prologue_shaped

pub returns-clause-epilogue : goal.returns-clause-epilogue
returns-clause-epilogue c = epilogue_shaped

pub returns-clause-loaded : goal.returns-clause-loaded
returns-clause-loaded c = loaded_straight
