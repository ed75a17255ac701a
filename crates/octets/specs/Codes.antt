-- Codes of options, and values of option 53, the message type (RFC 2132).
use Rattle.std.specs.Prelude.{ℕ}

-- One octet of padding, and the end mark (sections 3.1 and 3.2).
abbrev pub pad_code : ℕ
pad_code = 0

abbrev pub end_code : ℕ
end_code = 255

-- Sections 3.3, 3.5, 3.8 and 3.14.
abbrev pub mask_code : ℕ
mask_code = 1

abbrev pub router_code : ℕ
router_code = 3

abbrev pub dns_code : ℕ
dns_code = 6

abbrev pub host_name_code : ℕ
host_name_code = 12

-- Sections 9.1, 9.2, 9.6, 9.7, 9.8, 9.10, 9.11 (T1), 9.12 (T2) and 9.14.
abbrev pub requested_code : ℕ
requested_code = 50

abbrev pub lease_time_code : ℕ
lease_time_code = 51

abbrev pub message_type_code : ℕ
message_type_code = 53

abbrev pub identifier_code : ℕ
identifier_code = 54

abbrev pub request_list_code : ℕ
request_list_code = 55

abbrev pub message_size_code : ℕ
message_size_code = 57

abbrev pub renewal_code : ℕ
renewal_code = 58

abbrev pub rebinding_code : ℕ
rebinding_code = 59

abbrev pub client_id_code : ℕ
client_id_code = 61

-- Message types (section 9.6).
abbrev pub discover : ℕ
discover = 1

abbrev pub offer : ℕ
offer = 2

abbrev pub request : ℕ
request = 3

abbrev pub ack : ℕ
ack = 5

abbrev pub nak : ℕ
nak = 6
