-- Settings with a host name.
use Rattle.std.specs.Prelude.{ℕ, List, length, leb}
use Rattle.choice.specs.Choice.{when◌then◌else◌}
use Rattle.settings.specs.declared.settings.Settings.{Settings}
use Rattle.made.specs.Replies.{put_at}

-- As they were where the name is over 63 octets.
unfoldable pub with_name : Settings → List ℕ → Settings
with_name s name =
    when leb (length name) 63
    then record {
      medium = s.medium;
      mtu = s.mtu;
      hardware = s.hardware;
      offload = s.offload;
      name = put_at 0 name s.name;
      name_len = length name;
      listed = s.listed;
      list = s.list;
      list_len = s.list_len;
      extra = s.extra;
      extra_len = s.extra_len;
      capped = s.capped;
      maximum = s.maximum;
    }
    else s
