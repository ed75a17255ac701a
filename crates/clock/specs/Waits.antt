-- The client's waits, as one record. Which ones a client has is `waits_of` of settings.
use Rattle.clock.specs.Durations.{duration}
use Rattle.clock.specs.declared.waits.Waits.{Waits}

-- Document 01, "Polling": Discover again after 10 s; a Request in Requesting waits 5, 5, 10, 10, 20 s, which is 5 s
-- doubled at every second of 5 tries; a Request in Renewing waits at least 60 s.
unfoldable pub standard_waits : Waits
standard_waits =
    record {
      discover_timeout = duration 10000;
      initial_request_timeout = duration 5000;
      request_retries = 5;
      min_renew_timeout = duration 60000;
    }
