use Rattle.station_set.proofs.Members.{same_members, has-union, has-common, has-single, has-missing, has_with, has_without, has-set_of, ones_members, among_decides}
use Rattle.station_set.proofs.sets_by_member.Goals as goal

pub returns : goal.returns
returns c =
    record {
      same_members = same_members;
      of_union = has-union;
      of_common = has-common;
      of_single = has-single;
      of_missing = has-missing;
      of_with = has_with;
      of_without = has_without;
      of_set_of = has-set_of;
      of_members = ones_members;
      among_decides = among_decides;
    }
