use Rattle.std.proofs.Common.{arith}
use Rattle.pw_inst.specs.InstructionTable.{word_of}
use Rattle.pw_inst.proofs.SettingLaws.{long_encoding, displacement_encoding, branch_encoding}
use Rattle.pw_inst.proofs.setting.set_words_are_encodings.Goals as goal

pub returns-clause-ldil : goal.returns-clause-ldil
unfolding word_of
returns-clause-ldil c im t new target fits = long_encoding im t new target

pub returns-clause-ldo : goal.returns-clause-ldo
unfolding word_of
returns-clause-ldo c im new b t fits base target = displacement_encoding 0x0D b t im new (omega arith) base target fits

pub returns-clause-ldb : goal.returns-clause-ldb
unfolding word_of
returns-clause-ldb c im new b t fits base target = displacement_encoding 0x10 b t im new (omega arith) base target fits

pub returns-clause-ldh : goal.returns-clause-ldh
unfolding word_of
returns-clause-ldh c im new b t fits base target = displacement_encoding 0x11 b t im new (omega arith) base target fits

pub returns-clause-ldw : goal.returns-clause-ldw
unfolding word_of
returns-clause-ldw c im new b t fits base target = displacement_encoding 0x12 b t im new (omega arith) base target fits

pub returns-clause-stb : goal.returns-clause-stb
unfolding word_of
returns-clause-stb c r im new b fits base other = displacement_encoding 0x18 b r im new (omega arith) base other fits

pub returns-clause-sth : goal.returns-clause-sth
unfolding word_of
returns-clause-sth c r im new b fits base other = displacement_encoding 0x19 b r im new (omega arith) base other fits

pub returns-clause-stw : goal.returns-clause-stw
unfolding word_of
returns-clause-stw c r im new b fits base other = displacement_encoding 0x1A b r im new (omega arith) base other fits

pub returns-clause-bl : goal.returns-clause-bl
unfolding word_of
returns-clause-bl c disp new t n fits other target = branch_encoding disp new t n fits target
