use Rattle.kz_laws.proofs.StayCourses.{stays_course}
use Rattle.kz_laws.proofs.stays.stays_make_courses.Goals as goal

pub returns : goal.returns
returns c = stays_course
