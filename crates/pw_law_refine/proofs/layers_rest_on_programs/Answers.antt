use Rattle.pw_law_refine.proofs.layers_rest_on_programs.Goals as goal

pub returns : goal.returns
returns c = λ keeps owes never p frame_of stack input checked accepted none bytes.
    keeps p frame_of stack input (owes p frame_of stack checked accepted) none bytes (never p frame_of stack input checked accepted bytes)
