-- What is known from the crates below, by their contracts.
use Rattle.pw_law_select_memory.specs.Numbers.{StoredNumbersAreRead, OtherBytesStay, NumbersAreBounded, BytesStayBytes}
use Rattle.pw_law_select_rows.specs.Straight.{JoinedWordsAct, JoinedWordsNote, StraightWordsRun}
use Rattle.pw_law_select_rows.specs.Making.{NothingIsNoted, ConstantsAreMade, AddressesAreMade}
use Rattle.pw_law_select_rows.specs.Frames.{FrameWordsAreLoaded, FrameWordsAreStored}
use Rattle.pw_law_select_rows.specs.Places.{TemporariesAreLoaded}

pub record Known : Type 0 where
  pub joins : JoinedWordsAct
  pub notes : JoinedWordsNote
  pub run : StraightWordsRun
  pub quiet : NothingIsNoted
  pub constants : ConstantsAreMade
  pub addresses : AddressesAreMade
  pub loads : FrameWordsAreLoaded
  pub stores : FrameWordsAreStored
  pub temporaries : TemporariesAreLoaded
  pub read : StoredNumbersAreRead
  pub other : OtherBytesStay
  pub bounded : NumbersAreBounded
  pub bytes : BytesStayBytes
