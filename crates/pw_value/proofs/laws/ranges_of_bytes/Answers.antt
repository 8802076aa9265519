use Rattle.pw_value.proofs.Ranges.{length-bytes_from, byte_at-bytes_from, bytes_from-take, length-with_bytes, with_bytes-take, byte_at-with_bytes, byte_at-with_bytes_other, bytes_from-with_bytes, bytes_from-with_bytes_beside, with_bytes-bytes_from}
use Rattle.pw_value.proofs.laws.ranges_of_bytes.Goals as goal

pub returns-clause-read_length : goal.returns-clause-read_length
returns-clause-read_length c = length-bytes_from

pub returns-clause-read_byte : goal.returns-clause-read_byte
returns-clause-read_byte c = byte_at-bytes_from

pub returns-clause-read_part : goal.returns-clause-read_part
returns-clause-read_part c = bytes_from-take

pub returns-clause-written_length : goal.returns-clause-written_length
returns-clause-written_length c = length-with_bytes

pub returns-clause-written_part : goal.returns-clause-written_part
returns-clause-written_part c = with_bytes-take

pub returns-clause-written_byte : goal.returns-clause-written_byte
returns-clause-written_byte c = byte_at-with_bytes

pub returns-clause-other_byte : goal.returns-clause-other_byte
returns-clause-other_byte c = byte_at-with_bytes_other

pub returns-clause-read_written : goal.returns-clause-read_written
returns-clause-read_written c = bytes_from-with_bytes

pub returns-clause-read_beside : goal.returns-clause-read_beside
returns-clause-read_beside c = bytes_from-with_bytes_beside

pub returns-clause-written_as_read : goal.returns-clause-written_as_read
returns-clause-written_as_read c = with_bytes-bytes_from
