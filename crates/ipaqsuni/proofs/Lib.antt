mod Numbers

-- What the reader takes, as C is answered it.
