use Rattle.pw_law_select_memory.proofs.Numbers as numbers
use Rattle.pw_law_select_memory.proofs.numbers_are_stored.Goals as goal

pub returns-clause-read : goal.returns-clause-read
returns-clause-read c = numbers.stored_number

pub returns-clause-byte : goal.returns-clause-byte
returns-clause-byte c = numbers.other_byte

pub returns-clause-number : goal.returns-clause-number
returns-clause-number c = numbers.other_number

pub returns-clause-listed : goal.returns-clause-listed
returns-clause-listed c = numbers.other_bytes

pub returns-clause-bounded : goal.returns-clause-bounded
returns-clause-bounded c = numbers.number_bounded

pub returns-clause-bytes : goal.returns-clause-bytes
returns-clause-bytes c = numbers.bytes_stay
