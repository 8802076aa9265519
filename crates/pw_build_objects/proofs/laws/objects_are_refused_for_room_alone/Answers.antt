use Rattle.pw_build_objects.proofs.RoomLaws.{parts_link, room_alone}
use Rattle.pw_build_objects.proofs.laws.objects_are_refused_for_room_alone.Goals as goal

pub returns-clause-links : goal.returns-clause-links
returns-clause-links c = parts_link (record { lawful = c.forms_keep_what_modules_have.ensures.lawful; declare = c.forms_keep_what_modules_have.ensures.declare }) c.summaries_and_objects_are_refused_alike.ensures.linked

pub returns-clause-room : goal.returns-clause-room
returns-clause-room c =
    room_alone (record { lawful = c.forms_keep_what_modules_have.ensures.lawful; declare = c.forms_keep_what_modules_have.ensures.declare }) c.summaries_and_objects_are_refused_alike.ensures.linked c.modules_have_one_answer.ensures.not_both
