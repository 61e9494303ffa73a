mod FourSound
